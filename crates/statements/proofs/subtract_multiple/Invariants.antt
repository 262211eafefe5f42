use Prim.Native.Nat.{◌+◌}
use Rattle.methods.specs.Elimination.{RowWritten, subtracted}
use Rattle.statements.proofs.subtract_multiple.Given as goal

abbrev pub invariant-loop-k : goal.invariant-loop-k
invariant-loop-k l = RowWritten l.n l.i (l.j + 1) (subtracted l.n l.initial.l l.column l.i) l.initial.l l.k l.l l.ok
