-- What it means that a root is correctly rounded, by comparison of whole squares. proofs/Nearest.antt: `sqrt-nearest`.
use Rattle.std.specs.Prelude.{ℕ, ◌+◌, ◌*◌, ◌^◌, ◌<◌, ◌≡◌, true, false, T, Float}
use Rattle.std.specs.Float.{binary64}
use Rattle.std.specs.Float.Ieee.{fits, lt}
use Rattle.std.specs.Float.Ieee.Scale.{finite}
use Rattle.arithmetic.specs.Double.{plus_zero}
use Rattle.arithmetic.specs.Sign.{sign_of}
use Rattle.arithmetic.specs.Sqrt.{magnitude}

-- The root of n is nearer to v than to y: it lies on v's side of (v + y) / 2, so 4 * n lies on v's side of the square of v + y.
-- Neither comparison allows equality, so no tie occurs.
pub record Nearer (n v y : ℕ) : Type 0 where
  pub below : v < y → 4 * n < (v + y) * (v + y)
  pub above : y < v → (v + y) * (v + y) < 4 * n

-- a finite double that is not negative: +0.0, -0.0, subnormal or normal
pub record NotNegative (x : Float) : Type 0 where
  pub double : T (fits binary64 x)
  pub number : finite x ≡ true
  pub sign : lt x plus_zero ≡ false

-- v is the double nearest to the root of x. In units of 2^-1074 that root is the root of the whole number magnitude x * 2^1074.
pub record NearestRoot (x v : Float) : Type 0 where
  pub result : NotNegative v
  pub nearest : (y : Float) → NotNegative y → Nearer (magnitude x * 2 ^ 1074) (magnitude v) (magnitude y)
  -- where a double's square is x, v is that double: of the two zeros, the one with v's sign
  pub exact : (y : Float) → NotNegative y → sign_of y ≡ sign_of v → magnitude y * magnitude y ≡ magnitude x * 2 ^ 1074 → v ≡ y
