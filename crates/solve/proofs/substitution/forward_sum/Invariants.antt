use lib.ListN.{get_or}
use lib.Ieee.{nan}
use Rattle.arithmetic.specs.Double.{◌⊕◌, ◌⊗◌}
use Rattle.arithmetic.proofs.Counting.{Counting}
use Rattle.matrix.specs.Matrix.{at}
use Rattle.solve.proofs.substitution.forward_sum.Given as goal

abbrev pub invariant-loop-k : goal.invariant-loop-k
invariant-loop-k l = Counting 0 l.t l.k (λ i v. v ⊕ at l.n l.l l.t i ⊗ get_or l.z i nan) l.initial.sum l.sum
