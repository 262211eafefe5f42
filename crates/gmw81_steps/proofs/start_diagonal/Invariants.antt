use Rattle.arithmetic.proofs.Counting.{Counting}
use Rattle.matrix.specs.Matrix.{at, put}
use Rattle.gmw81_steps.proofs.start_diagonal.Given as goal

abbrev pub invariant-loop-i : goal.invariant-loop-i
invariant-loop-i l = Counting 0 l.n l.i (λ k m. put l.n m k k (at l.n l.a k k)) l.initial.c l.c
