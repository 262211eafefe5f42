use Prim.Native.Nat.{◌+◌}
use lib.Ieee.Scale.{finite}
use Rattle.arithmetic.proofs.AllLaws.{and_test}
use Rattle.arithmetic.proofs.Counting.{Counting}
use Rattle.matrix.specs.Matrix.{at}
use Rattle.gmw81_steps.proofs.diagonal_finite.Given as goal

abbrev pub invariant-loop-i : goal.invariant-loop-i
invariant-loop-i l = Counting (l.j + 1) l.n l.i (and_test (λ k. finite (at l.n l.c k k))) l.initial.ok l.ok
