use mathlib.Core.Path.{◌≡◌}
use lib.ListN.{length}
use Rattle.arithmetic.proofs.Counting.{Counting}
use Rattle.matrix.specs.Matrix.{zeros}
use Rattle.solve.specs.Substitution.{solved, forward_row}
use Rattle.solve.proofs.substitution.forward.Given as goal

abbrev pub invariant-loop-t : goal.invariant-loop-t
invariant-loop-t l = Counting 0 l.n l.t (forward_row l.n l.l l.p l.b) (solved (zeros l.n)) (solved l.z) × (length l.z ≡ l.n)
