use Prim.Native.Nat.{◌+◌, ◌*◌}
use lib.Ieee.{nan}
use Rattle.arithmetic.proofs.Counting.{Counting}
use Rattle.matrix.specs.Swap.{swap}
use Rattle.statements.proofs.swap_below.Given as goal

abbrev pub invariant-loop-k : goal.invariant-loop-k
invariant-loop-k l = Counting (l.q + 1) l.n l.k (λ t m. swap nan m (t * l.n + l.j) (t * l.n + l.q)) l.initial.l l.l
