use mathlib.Core.Bool.{Bool}
use mathlib.Core.List.{List}
use mathlib.Core.Path.{◌≡◌}
use Prim.Native.Nat.{ℕ, ◌-◌, ◌≤◌}
use lib.ListN.{length}
use lib.Ieee.{Float}
use Rattle.arithmetic.specs.First.{first, first_from}
use Rattle.arithmetic.specs.Loop.{range}
use Rattle.circles.specs.Circles.{sums, overflows, centre, radius, set_to}
use Rattle.circles.proofs.gershgorin.gershgorin_circles_unchecked.Given as goal

abbrev pub overflowing : ℕ → List Float → ℕ → Bool
overflowing n mat i = overflows (sums n mat i)

abbrev pub invariant-loop-i : goal.invariant-loop-i
invariant-loop-i l = (l.i ≤ l.n) × (length l.centres ≡ length l.initial.centres) × (length l.radii ≡ length l.initial.radii)
    × (first (overflowing l.n l.mat) l.n ≡ first_from (overflowing l.n l.mat) l.i (l.n - l.i))
    × (l.centres ≡ range 0 l.i (set_to (centre l.n l.mat)) l.initial.centres) × (l.radii ≡ range 0 l.i (set_to (radius l.n l.mat)) l.initial.radii)

abbrev pub decreases-loop-i : goal.decreases-loop-i
decreases-loop-i l = l.n - l.i
