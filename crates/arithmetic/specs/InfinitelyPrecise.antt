-- What the second stage of the root hands on to rounding (document 02, N4): `WholeRoot` is the contract of `infinitely_precise_root`,
-- src/sqrt.rt. The theorems are `whole-root` and `examples` (proofs/Stages.antt) and `rounds_alike` (proofs/Rounding.antt).
use Rattle.std.specs.Prelude.{ℕ, ◌+◌, ◌-◌, ◌*◌, ◌^◌, ◌≤◌, ◌<◌, ◌≡◌, Bool, true, false, T, ltb, Float}
use Rattle.std.specs.Float.{binary64}
use Rattle.std.specs.Float.Ieee.{fits, of_bits, round}
use Rattle.std.specs.Float.Ieee.Positive.{positive}
use Rattle.arithmetic.specs.Sqrt.{magnitude, nearest_to, sqrt}

-- In units of 2^-1074 the root of x is the root of the whole number magnitude x * 2^1074. `whole` is the whole part of that root divided by
-- 2^scale, of 54 binary digits: 53 for a double, and one more for the half. `cut` says whether anything was cut off behind it.
pub record WholeRoot (x : Float) (whole : ℕ) (cut : Bool) (scale : ℕ) : Type 0 where
  pub under : whole * 2 ^ scale * (whole * 2 ^ scale) ≤ magnitude x * 2 ^ 1074
  pub over : magnitude x * 2 ^ 1074 < (whole + 1) * 2 ^ scale * ((whole + 1) * 2 ^ scale)
  pub flag : cut ≡ ltb (whole * 2 ^ scale * (whole * 2 ^ scale)) (magnitude x * 2 ^ 1074)
  pub least : 2 ^ 53 ≤ whole
  pub most : whole < 2 ^ 54

-- There is one such result and no other, and the root is what rounding makes of these three.
pub record HandedOn (x : Float) : Type 0 where
  pub whole : ℕ
  pub cut : Bool
  pub scale : ℕ
  pub is : WholeRoot x whole cut scale
  pub only : (r : ℕ) (c : Bool) (s : ℕ) → WholeRoot x r c s → (r ≡ whole) × (c ≡ cut) × (s ≡ scale)
  pub rounded : sqrt x ≡ nearest_to whole cut scale

-- for every double that is finite and above zero, normal or subnormal
abbrev pub WholeRootTheorem : Type 0
WholeRootTheorem = (x : Float) → T (fits binary64 x) → T (positive x) → HandedOn x

-- Rounding needs nothing else: every number of units, num / den, with this whole part at this scale and this flag has the same nearest double.
abbrev pub RoundsAlikeTheorem : Type 0
RoundsAlikeTheorem =
    (whole : ℕ) (cut : Bool) (scale num den : ℕ)
    → 2 ^ 53 ≤ whole
    → whole < 2 ^ 54
    → whole * 2 ^ scale * den ≤ num
    → num < (whole + 1) * 2 ^ scale * den
    → cut ≡ ltb (whole * 2 ^ scale * den) num
    → round binary64 false num (den * 2 ^ 1074) ≡ nearest_to whole cut scale

-- By hand: the smallest positive double, the largest subnormal, 2, the largest double, and one whose root lies just above halfway between two doubles.
abbrev pub Examples : Type 0
Examples =
    WholeRoot (of_bits binary64 1) (2 ^ 53) false 484
    × WholeRoot (of_bits binary64 0xf_ffff_ffff_ffff) (2 ^ 54 - 3) true 509
    × WholeRoot (of_bits binary64 0x4000_0000_0000_0000) 12738103345051545 true 1021
    × WholeRoot (of_bits binary64 0x7fef_ffff_ffff_ffff) (2 ^ 54 - 2) true 1532
    × WholeRoot (of_bits binary64 0x4005_b953_4497_2fe2) 14842735292367029 true 1021
