use Rattle.arithmetic.specs.Double.{one}
use Rattle.arithmetic.proofs.Counting.{Counting}
use Rattle.matrix.specs.Matrix.{put}
use Rattle.gmw81_steps.proofs.unit_diagonal.Given as goal

abbrev pub invariant-loop-i : goal.invariant-loop-i
invariant-loop-i l = Counting 0 l.n l.i (λ k m. put l.n m k k one) l.initial.l l.l
