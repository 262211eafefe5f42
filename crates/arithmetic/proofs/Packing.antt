-- Bit patterns: what is written for q * 2^k units.
use mathlib.Core.Path.{◌≡◌, refl, sym, ap, ◌∙◌, subst}
use mathlib.Core.Bool.{false}
use mathlib.Core.Logic.{inl, inr}
use Prim.Native.Nat.{ℕ, suc, ◌+◌, ◌-◌, ◌*◌, ◌/◌, ◌^◌, ◌≤◌, ◌<◌}
use native.Mathlib.Omega.{arith}
use native.Mathlib.Nat.{lt_of_le_of_lt, le_of_eq, mul-le-mul_right, mul-lt-mul_of_pos_right, pow-suc, mul-div_cancel, eq-or-lt_of_le}
use lib.IntN.{ℤ}
use lib.Dec.{T, ltb, lit<, lit≤, lt→ltb}
use lib.Pow.{pow_pos, pow_mono, pow-add, shl-shr}
use lib.Ieee.{Float, nan, inf, fin, binary64, units, odd, size, up, down, fits, to_bits, of_bits, is_nan, nan_bits}
use lib.Ieee.Exact.{HasValue, units_val}
use lib.Ieee.Fits.{odd-fits, down_pos}
use lib.Ieee.Bits.{of_bits-to_bits, is_true, nan_bits_is}
use Rattle.arithmetic.proofs.Rounding.{size_at}

-- the magnitude in units, of a value that is q * 2 ^ k of them
pub magnitude-is : (m : ℕ) (e : ℤ) (n : ℕ) → m * up e * 2 ^ 1074 ≡ n * down e → m * up e * 2 ^ 1074 / down e ≡ n
magnitude-is m e n h = ap (λ (x : ℕ). x / down e) h ∙ mul-div_cancel n (down_pos e)

written : (q k : ℕ) → 2 ^ 52 ≤ q → q < 2 ^ 53 → 0 + (size (q * 2 ^ k) - 53) * 2 ^ 52 + q * 2 ^ k / 2 ^ (size (q * 2 ^ k) - 53) ≡ k * 2 ^ 52 + q
written q k lo hi =
    let l : size (q * 2 ^ k) ≡ suc (52 + k) = size_at (q * 2 ^ k) (52 + k) (rw (pow-add 2 52 k) (mul-le-mul_right (2 ^ k) lo)) (rw (pow-suc, pow-add 2 52 k) (omega (arith, mul-lt-mul_of_pos_right hi (pow_pos k)))) in
    let z : size (q * 2 ^ k) - 53 ≡ k = omega arith in
    rw (z, shl-shr) (omega arith)

to_bits_of : (v : Float) (q k : ℕ) → HasValue v false (q * 2 ^ k) (2 ^ 1074) → 2 ^ 52 ≤ q → q < 2 ^ 53 → to_bits binary64 v ≡ k * 2 ^ 52 + q
unfolding to_bits
to_bits_of nan q k h lo hi = absurd h
to_bits_of (inf s) q k h lo hi = absurd h
to_bits_of (fin s m e) q k h lo hi = rw (h.0, magnitude-is m e (q * 2 ^ k) h.1) (written q k lo hi)

carry : (k : ℕ) → 2 ^ 53 * 2 ^ k ≡ 2 ^ 52 * 2 ^ suc k
carry k = rw (pow-suc 2 k) (omega arith)

pub to_bits_at : (v : Float) (q k : ℕ) → HasValue v false (q * 2 ^ k) (2 ^ 1074) → 2 ^ 52 ≤ q → q ≤ 2 ^ 53 → to_bits binary64 v ≡ k * 2 ^ 52 + q
to_bits_at v q k h lo hi = elim (eq-or-lt_of_le hi) [
  | inl z ↦ to_bits_of v (2 ^ 52) (suc k) (subst (λ (n : ℕ). HasValue v false n (2 ^ 1074)) (ap (λ (n : ℕ). n * 2 ^ k) z ∙ carry k) h) (lit≤ tt) (lit< tt) ∙ omega arith
  | inr l ↦ to_bits_of v q k h lo l
]

module _ (q k : ℕ) (hi : q ≤ 2 ^ 53) (small : k ≤ 2044) where
  under : q * 2 ^ k < 2 ^ 2098
  under = lt_of_le_of_lt (mul-le-mul_right (2 ^ k) hi) (lt_of_le_of_lt (le_of_eq (sym (pow-add 2 53 k))) (lt_of_le_of_lt (pow_mono {i = 53 + k} {j = 2097} (omega arith)) (lit< tt)))

  units_is : units binary64 false q k ≡ odd 54 false q k 1074
  unfolding units
  units_is = rw (is_true (ltb (q * 2 ^ k) (2 ^ 2098)) (lt→ltb _ _ under))

  units_fits : T (fits binary64 (units binary64 false q k))
  units_fits = rw units_is (odd-fits binary64 54 false q k (omega arith) hi under)

  pub units_value : HasValue (units binary64 false q k) false (q * 2 ^ k) (2 ^ 1074)
  units_value = units_val binary64 false q k under

  pub pack : 2 ^ 52 ≤ q → of_bits binary64 (k * 2 ^ 52 + q) ≡ units binary64 false q k
  pack lo = ap (of_bits binary64) (sym (to_bits_at (units binary64 false q k) q k units_value lo hi)) ∙ of_bits-to_bits binary64 (units binary64 false q k) units_fits

  pub pack_nan : 2 ^ 52 ≤ q → nan_bits binary64 (k * 2 ^ 52 + q) ≡ false
  unfolding is_nan
  pack_nan lo = nan_bits_is binary64 (k * 2 ^ 52 + q) ∙ ap is_nan (pack lo) ∙ not_nan (units binary64 false q k) units_value
    where
      not_nan : (v : Float) → HasValue v false (q * 2 ^ k) (2 ^ 1074) → is_nan v ≡ false
      not_nan nan h = absurd h
      not_nan (inf s) h = absurd h
      not_nan (fin s m e) h = refl
