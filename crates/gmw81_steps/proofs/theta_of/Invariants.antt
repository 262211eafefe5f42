use Prim.Native.Nat.{◌+◌}
use Rattle.arithmetic.proofs.Counting.{Counting}
use Rattle.matrix.specs.Matrix.{at}
use Rattle.methods.specs.Statements.{larger_magnitude}
use Rattle.gmw81_steps.proofs.theta_of.Given as goal

abbrev pub invariant-loop-i : goal.invariant-loop-i
invariant-loop-i l = Counting (l.j + 1) l.n l.i (λ k x. larger_magnitude x (at l.n l.c k l.j)) l.initial.acc l.acc
