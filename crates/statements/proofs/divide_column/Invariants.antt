use Prim.Native.Nat.{◌+◌}
use lib.Ieee.{nan}
use Rattle.arithmetic.specs.Double.{◌⊘◌}
use Rattle.matrix.specs.Matrix.{at}
use Rattle.methods.specs.Elimination.{ColumnWritten}
use Rattle.matrix.proofs.Filled.{Written}
use Rattle.statements.proofs.divide_column.Given as goal

abbrev pub invariant-loop-i : goal.invariant-loop-i
invariant-loop-i l = ColumnWritten l.n l.j (l.j + 1) (λ x. at l.n l.initial.l x l.j ⊘ l.r) l.initial.l l.i l.l l.ok × Written nan (λ x. at l.n l.initial.l x l.j ⊘ l.r) (l.j + 1) l.i l.column
