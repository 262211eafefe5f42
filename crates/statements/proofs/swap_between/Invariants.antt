use Prim.Native.Nat.{◌+◌, ◌*◌}
use lib.Ieee.{nan}
use Rattle.arithmetic.proofs.Counting.{Counting}
use Rattle.matrix.specs.Swap.{swap}
use Rattle.statements.proofs.swap_between.Given as goal

abbrev pub invariant-loop-k : goal.invariant-loop-k
invariant-loop-k l = Counting (l.j + 1) l.q l.k (λ t m. swap nan m (t * l.n + l.j) (l.q * l.n + t)) l.initial.l l.l
