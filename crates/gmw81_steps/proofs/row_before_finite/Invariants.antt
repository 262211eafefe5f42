use lib.Ieee.Scale.{finite}
use Rattle.arithmetic.proofs.AllLaws.{and_test}
use Rattle.arithmetic.proofs.Counting.{Counting}
use Rattle.matrix.specs.Matrix.{at}
use Rattle.gmw81_steps.proofs.row_before_finite.Given as goal

abbrev pub invariant-loop-s : goal.invariant-loop-s
invariant-loop-s l = Counting 0 l.j l.s (and_test (λ k. finite (at l.n l.l l.j k))) l.initial.ok l.ok
