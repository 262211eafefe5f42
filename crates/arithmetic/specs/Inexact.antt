-- The inexact flag (document 02, N5), by whole numbers. The theorems are `inexact-roots` and `cut_off`, proofs/Inexact.antt.
use Rattle.std.specs.Prelude.{ℕ, ◌*◌, ◌%◌, ◌^◌, ◌≡◌, Bool, true, false, T, Float}
use Rattle.std.specs.Float.{binary64}
use Rattle.std.specs.Float.Ieee.{fits}
use Rattle.std.specs.Float.Ieee.Scale.{finite}
use Rattle.std.specs.Float.Ieee.Positive.{positive}
use Rattle.arithmetic.specs.Outcome.{complete, ended, value_or}
use Rattle.arithmetic.specs.declared.sqrt.Rounded.{Rounded}
use Rattle.arithmetic.specs.InfinitelyPrecise.{WholeRoot}
use Rattle.arithmetic.specs.Sqrt.{magnitude, inexact, sqrt_call, no_root}

-- y is a finite double, of either sign, and its exact square, unrounded, is x. In units of 2^-1074 the square of y is
-- magnitude y * magnitude y / 2^1074.
pub record ExactRoot (x y : Float) : Type 0 where
  pub double : T (fits binary64 y)
  pub number : finite y ≡ true
  pub square : magnitude y * magnitude y ≡ magnitude x * 2 ^ 1074

-- what is handed back, beside a refusal too
abbrev pub handed_back : Float → Rounded
handed_back x = value_or no_root (sqrt_call x)

-- For an accepted operand the flag says that no double has it as its exact square; where it is false the root handed back is one that has.
-- Beside a refusal it is false.
pub record InexactCall (x : Float) : Type 0 where
  pub inexact : complete (ended (sqrt_call x)) ≡ true → (handed_back x).inexact ≡ true → (y : Float) → ExactRoot x y → ⊥
  pub exact : complete (ended (sqrt_call x)) ≡ true → (handed_back x).inexact ≡ false → ExactRoot x (handed_back x).value
  pub refused : complete (ended (sqrt_call x)) ≡ false → (handed_back x).inexact ≡ false

-- for every double
abbrev pub InexactTheorem : Type 0
InexactTheorem = (x : Float) → T (fits binary64 x) → InexactCall x

-- What the second stage of the root hands on says it: where nothing was cut off the whole part is even, so rounding changes nothing, and
-- otherwise no double is the root.
abbrev pub CutOffTheorem : Type 0
CutOffTheorem =
    (x : Float) (whole : ℕ) (cut : Bool) (scale : ℕ)
    → T (fits binary64 x)
    → T (positive x)
    → WholeRoot x whole cut scale
    → (cut ≡ false → whole % 2 ≡ 0) × (cut ≡ inexact x)
