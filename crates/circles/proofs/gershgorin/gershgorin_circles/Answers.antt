use mathlib.Core.List.{List}
use mathlib.Core.Path.{◌≡◌}
use Prim.Native.Nat.{ℕ}
use lib.ListN.{length}
use lib.Ieee.{Float}
use Rattle.matrix.specs.Matrix.{Square}
use Rattle.circles.specs.Circles.{circle_checks}
use Rattle.matrix.proofs.CheckLaws.{Accepted, passed, both_accepted, size_accepted, matrix-accepted, buffer_accepted}
use Rattle.circles.proofs.gershgorin.gershgorin_circles.Goals as goal

circles-accepted : (n : ℕ) (mat : List Float) (centres radii : ℕ) → Accepted (circle_checks n mat centres radii) → Square n mat × ((centres ≡ n) × (radii ≡ n))
circles-accepted n mat centres radii h =
    let f = both_accepted _ _ h in
    let r = both_accepted _ _ f.0 in
    let b = both_accepted _ _ r.0 in
    let m = both_accepted _ _ b.0 in
    (record { len = matrix-accepted n (length mat) m.1; small = (size_accepted n m.0).1 }, (buffer_accepted n centres b.1, buffer_accepted n radii r.1))

pub gershgorin_circles_unchecked-requires : goal.gershgorin_circles_unchecked-requires
gershgorin_circles_unchecked-requires c =
    let h = circles-accepted _ _ _ _ (passed c.circle_checks.ensures c.in_ok-circle_checks.was) in record { square = h.0; centres_len = h.1 }
