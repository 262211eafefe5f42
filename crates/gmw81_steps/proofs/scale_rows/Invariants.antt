use lib.ListN.{get_or}
use lib.Ieee.{nan}
use Rattle.arithmetic.specs.Double.{plus_zero, ◌⊕◌, ◌⊗◌}
use Rattle.arithmetic.specs.Loop.{range}
use Rattle.arithmetic.proofs.Counting.{Counting}
use Rattle.matrix.specs.Matrix.{at, put}
use Rattle.gmw81_steps.proofs.scale_rows.Given as goal

abbrev pub invariant-loop-i : goal.invariant-loop-i
invariant-loop-i l = Counting 0 l.n l.i (λ x. range 0 l.n (λ k m. put l.n m x k (plus_zero ⊕ at l.n m x k ⊗ get_or l.r k nan))) l.initial.l l.l
