use Rattle.arithmetic.specs.Double.{◌⊕◌, ◌⊗◌}
use Rattle.arithmetic.proofs.Counting.{Counting}
use Rattle.matrix.specs.Matrix.{at}
use Rattle.gmw81_steps.proofs.dot.Given as goal

abbrev pub invariant-loop-s : goal.invariant-loop-s
invariant-loop-s l = Counting 0 l.j l.s (λ t v. v ⊕ at l.n l.l l.j t ⊗ at l.n l.c l.i t) l.initial.sum l.sum
