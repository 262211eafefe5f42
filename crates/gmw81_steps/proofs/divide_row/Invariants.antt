use lib.ListN.{get_or}
use lib.Ieee.{nan}
use Rattle.arithmetic.specs.Double.{◌⊘◌}
use Rattle.arithmetic.proofs.Counting.{Counting}
use Rattle.matrix.specs.Matrix.{at, put}
use Rattle.gmw81_steps.proofs.divide_row.Given as goal

abbrev pub invariant-loop-s : goal.invariant-loop-s
invariant-loop-s l = Counting 0 l.j l.s (λ t m. put l.n m l.j t (at l.n l.c l.j t ⊘ get_or l.d t nan)) l.initial.l l.l
