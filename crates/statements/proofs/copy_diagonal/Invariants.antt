use lib.Ieee.{nan}
use Rattle.matrix.specs.Matrix.{at}
use Rattle.matrix.proofs.Filled.{Filling}
use Rattle.statements.proofs.copy_diagonal.Given as goal

abbrev pub invariant-loop-i : goal.invariant-loop-i
invariant-loop-i l = Filling nan (λ k. at l.n l.m k k) l.j l.n l.i l.initial.diag l.diag
