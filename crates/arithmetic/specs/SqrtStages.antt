-- What the functions behind the second stage of the root hand on to each other (src/isqrt.rt, src/sqrt.rt).
use Rattle.std.specs.Prelude.{ℕ, ◌+◌, ◌*◌, ◌^◌, ◌≤◌, ◌<◌, ◌≡◌}

-- r is the whole part of the root of n, and d is what is left of n
pub record Remainder (n r d : ℕ) : Type 0 where
  pub total : r * r + d ≡ n
  pub rest : d ≤ 2 * r

-- what doubling the number of digits asks: s is the root of a number that leaves d, and b is the base
pub record Digits (s d b : ℕ) : Type 0 where
  pub rest : d ≤ 2 * s
  pub base : b ≤ 2 * s
  pub most : s < 2 ^ 27
  pub wide : b ≤ 2 ^ 27
  pub some : 0 < b

-- n units are significand * 2^exponent, a positive significand of at most 53 binary digits
pub record Significand (n significand exponent : ℕ) : Type 0 where
  pub some : 0 < significand
  pub digits : significand < 2 ^ 53
  pub most : exponent ≤ 2045
  pub is : significand * 2 ^ exponent ≡ n
