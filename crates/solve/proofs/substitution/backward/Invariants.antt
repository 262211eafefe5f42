use mathlib.Core.Path.{◌≡◌}
use Prim.Native.Nat.{◌-◌}
use lib.ListN.{length}
use Rattle.arithmetic.proofs.Counting.{Counting}
use Rattle.solve.specs.Substitution.{solved, backward_row}
use Rattle.solve.proofs.substitution.backward.Given as goal

abbrev pub invariant-loop-i : goal.invariant-loop-i
invariant-loop-i l = Counting 0 l.n l.i (λ k. backward_row l.n l.l (l.n - 1 - k)) (solved l.initial.w) (solved l.w) × (length l.w ≡ length l.initial.w)
