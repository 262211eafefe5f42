-- src/gershgorin.rs: centre and radius of each row's circle, and what the call answers, on accepted and refused operands.
use Rattle.std.specs.Prelude.{List, Bool, cond, not, ◌&&◌, ℕ, length, set, eqb, ltb, Float}
use Rattle.std.specs.Float.Ieee.Scale.{finite}
use Rattle.arithmetic.specs.Double.{◌⊕◌, abs, min, plus_zero}
use Rattle.arithmetic.specs.Loop.{range}
use Rattle.arithmetic.specs.First.{first}
use Rattle.arithmetic.specs.Outcome.{complete, refuse, ◌then◌}
use Rattle.arithmetic.specs.Outcome.{Outcome}
use Rattle.arithmetic.specs.declared.refusal.Refusal.TheVariants.{StoredNotFinite}
use Rattle.matrix.specs.Matrix.{at, zeros}
use Rattle.matrix.specs.Checks.{check_size, check_matrix, check_buffer, check_finite}
use Rattle.circles.specs.declared.gershgorin.Sums.{Sums}

-- if i == j { continue; } ri += self[(i, j)].abs(); ci += self[(j, i)].abs();
unfoldable pub add_magnitudes : ℕ → List Float → ℕ → ℕ → Sums → Sums
unfolding abs
add_magnitudes n mat i j s = cond (eqb i j) s (record { ri = s.ri ⊕ abs (at n mat i j); ci = s.ci ⊕ abs (at n mat j i) })

-- the sums of magnitudes of row i and of column i, without the diagonal
unfoldable pub sums : ℕ → List Float → ℕ → Sums
unfolding range add_magnitudes
sums n mat i = range 0 n (add_magnitudes n mat i) (record { ri = plus_zero; ci = plus_zero })

abbrev pub centre : ℕ → List Float → ℕ → Float
centre n mat i = at n mat i i

abbrev pub radius_of : Sums → Float
radius_of s = min s.ri s.ci

abbrev pub radius : ℕ → List Float → ℕ → Float
radius n mat i = radius_of (sums n mat i)

-- either sum counts for refusal 9, also where the other is finite
abbrev pub overflows : Sums → Bool
overflows s = not (finite s.ri && finite s.ci)

-- the first row with an infinite sum, n where there is none
unfoldable pub first_overflow : ℕ → List Float → ℕ
unfolding sums
first_overflow n mat = first (λ i. overflows (sums n mat i)) n

-- the first n places of a list become value 0, value 1, .., value (n - 1)
unfoldable pub set_to : (ℕ → Float) → ℕ → List Float → List Float
set_to value i l = set l i (value i)

unfoldable pub set_each : (ℕ → Float) → ℕ → List Float → List Float
unfolding range set_to
set_each value n l = range 0 n (set_to value) l

-- ---- circles: 3, 4, 5, 7, and 9 at the first row with an infinite sum, both lists then +0.0
pub record CirclesCall : Type 0 where
  pub outcome : Outcome
  pub centres : List Float
  pub radii : List Float

abbrev pub circles_call : Outcome → List Float → List Float → CirclesCall
circles_call outcome centres radii = record { outcome = outcome; centres = centres; radii = radii }

abbrev pub circle_checks : ℕ → List Float → ℕ → ℕ → Outcome
circle_checks n mat centres radii = check_size n then check_matrix n (length mat) then check_buffer n centres then check_buffer n radii then check_finite n mat

abbrev pub overflow : ℕ → List Float → Outcome
overflow n mat = refuse (ltb (first_overflow n mat) n) (StoredNotFinite (first_overflow n mat))

abbrev pub gershgorin_circles : ℕ → List Float → List Float → List Float → CirclesCall
gershgorin_circles n mat centres radii =
    cond (complete (overflow n mat))
    (circles_call (overflow n mat) (set_each (centre n mat) n centres) (set_each (radius n mat) n radii))
    (circles_call (overflow n mat) (zeros n) (zeros n))

abbrev pub gershgorin_circles_call : ℕ → List Float → List Float → List Float → CirclesCall
gershgorin_circles_call n mat centres radii =
    cond (complete (circle_checks n mat (length centres) (length radii)))
    (gershgorin_circles n mat centres radii)
    (circles_call (circle_checks n mat (length centres) (length radii)) centres radii)
