use Rattle.arithmetic.specs.Double.{plus_zero}
use Rattle.arithmetic.proofs.Counting.{Counting}
use Rattle.matrix.specs.Matrix.{put}
use Prim.Native.Nat.{◌+◌}
use Rattle.statements.proofs.clear_after.Given as goal

abbrev pub invariant-loop-k : goal.invariant-loop-k
invariant-loop-k l = Counting (l.i + 1) l.n l.k (λ t m. put l.n m l.i t plus_zero) l.initial.l l.l
