use Prim.Native.Nat.{◌+◌, ◌*◌}
use lib.Ieee.{nan}
use Rattle.arithmetic.proofs.Counting.{Counting}
use Rattle.matrix.specs.Swap.{swap}
use Rattle.statements.proofs.swap_left.Given as goal

abbrev pub invariant-loop-k : goal.invariant-loop-k
invariant-loop-k l = Counting 0 l.j l.k (λ t m. swap nan m (l.j * l.n + t) (l.q * l.n + t)) l.initial.l l.l
