use lib.ListN.{get_or}
use lib.Ieee.{nan}
use Rattle.arithmetic.specs.Double.{plus_zero, ◌⊕◌, ◌⊗◌}
use Rattle.arithmetic.proofs.Counting.{Counting}
use Rattle.matrix.specs.Matrix.{at, put}
use Rattle.gmw81_steps.proofs.scale_row.Given as goal

abbrev pub invariant-loop-k : goal.invariant-loop-k
invariant-loop-k l = Counting 0 l.n l.k (λ u m. put l.n m l.i u (plus_zero ⊕ at l.n m l.i u ⊗ get_or l.r u nan)) l.initial.l l.l
