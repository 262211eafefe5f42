use Prim.Native.Nat.{◌+◌}
use lib.ListN.{get_or}
use lib.Ieee.{nan}
use Rattle.arithmetic.specs.Double.{◌⊕◌, ◌⊗◌}
use Rattle.arithmetic.proofs.Counting.{Counting}
use Rattle.matrix.specs.Matrix.{at}
use Rattle.solve.proofs.substitution.backward_sum.Given as goal

abbrev pub invariant-loop-k : goal.invariant-loop-k
invariant-loop-k l = Counting (l.t + 1) l.n l.k (λ i v. v ⊕ at l.n l.l i l.t ⊗ get_or l.w i nan) l.initial.sum l.sum
