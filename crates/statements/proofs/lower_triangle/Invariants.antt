use Prim.Native.Nat.{◌-◌}
use Rattle.arithmetic.proofs.Counting.{Counting}
use Rattle.methods.specs.Statements.{clear_after}
use Rattle.statements.proofs.lower_triangle.Given as goal

abbrev pub invariant-loop-i : goal.invariant-loop-i
invariant-loop-i l = Counting 0 (l.n - 1) l.i (clear_after l.n) l.initial.l l.l
