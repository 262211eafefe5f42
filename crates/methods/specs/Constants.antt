-- What tau and mu are, by whole numbers (proofs/Nearest.antt: `tau-nearest`, `mu_nearest`). A unit is 2^-1074, as in the root's definition.
use Rattle.std.specs.Prelude.{ℕ, ◌+◌, ◌*◌, ◌^◌, ◌<◌, Float}
use Rattle.arithmetic.specs.Sqrt.{magnitude}
use Rattle.arithmetic.specs.Nearest.{NotNegative}

-- The cube root of n is nearer to v than to y: 8 * n lies on v's side of the cube of v + y, never on it.
pub record NearerCube (n v y : ℕ) : Type 0 where
  pub below : v < y → 8 * n < (v + y) * (v + y) * (v + y)
  pub above : y < v → (v + y) * (v + y) * (v + y) < 8 * n

-- 2^-52 is 2^3170 cubed units: x is the double nearest the real cube root of 2^-52
pub record NearestCubeRoot (x : Float) : Type 0 where
  pub result : NotNegative x
  pub nearest : (y : Float) → NotNegative y → NearerCube (2 ^ 3170) (magnitude x) (magnitude y)

-- A tenth of n is nearer to v than to y: 2 * n lies on v's side of 10 * (v + y), never on it.
pub record NearerTenth (n v y : ℕ) : Type 0 where
  pub below : v < y → 2 * n < 10 * (v + y)
  pub above : y < v → 10 * (v + y) < 2 * n

-- 1 is 2^1074 units: x is the double nearest 0.1
pub record NearestTenth (x : Float) : Type 0 where
  pub result : NotNegative x
  pub nearest : (y : Float) → NotNegative y → NearerTenth (2 ^ 1074) (magnitude x) (magnitude y)
