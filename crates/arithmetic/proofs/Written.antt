-- The third stage: what rounding writes.
use mathlib.Core.Path.{◌≡◌, refl, sym, ap, ◌∙◌}
use mathlib.Core.Bool.{Bool, true, false, not, cond}
use Prim.Native.Nat.{ℕ, zero, suc, ◌+◌, ◌*◌, ◌/◌, ◌%◌, ◌^◌, ◌≤◌, ◌<◌}
use native.Mathlib.Omega.{arith}
use native.Mathlib.Nat.{mul-le-mul}
use native.Mathlib.Numerals.{add-one}
use lib.Dec.{T}
use lib.Ieee.{binary64, units, of_bits, nan_bits}
use lib.Ieee.Nearest.{closest}
use Rattle.arithmetic.specs.Sqrt.{nearest_to}
use Rattle.arithmetic.proofs.Rounding.{bit, closest_even, closest_odd, closest_tie, nearest-is}
use Rattle.arithmetic.proofs.Packing.{pack, pack_nan}

module _ (r : ℕ) (c : Bool) (sc q : ℕ) (lo : 2 ^ 53 ≤ r) (hi : r < 2 ^ 54) (s : sc < 2000) (z : closest (2 * r + cond c 1 0) 4 ≡ q) (ql : 2 ^ 52 ≤ q) (qh : q ≤ 2 ^ 53) where
  pub writes : of_bits binary64 ((sc + 1) * 2 ^ 52 + q) ≡ nearest_to r c sc
  writes = rw add-one (pack q (suc sc) qh (omega arith) ql ∙ sym (nearest-is r c sc lo hi ∙ ap (λ (n : ℕ). units binary64 false n (suc sc)) z))

  pub writes_no_nan : T (not (nan_bits binary64 ((sc + 1) * 2 ^ 52 + q)))
  writes_no_nan = rw (add-one, pack_nan q (suc sc) qh (omega arith) ql) tt

-- what stands before the last digit of r, and one more where that digit says so
pub even_digit : (r : ℕ) (c : Bool) → r % 2 ≡ 0 → closest (2 * r + cond c 1 0) 4 ≡ r / 2
even_digit r c e = closest_even (r / 2) (2 * r + cond c 1 0) 2 (omega (arith, bit c)) (omega (arith, bit c))

odd_digit : (r : ℕ) → r % 2 ≡ 1 → closest (2 * r + 1) 4 ≡ r / 2 + 1
odd_digit r e = closest_odd (r / 2) (2 * r + 1) 2 (omega arith) (omega arith) ∙ sym (add-one (r / 2))

tie_digit : (r : ℕ) → r % 2 ≡ 1 → closest (2 * r + 0) 4 ≡ r / 2 + r / 2 % 2
tie_digit r e = closest_tie (r / 2) (2 * r + 0) 2 (omega arith) (omega arith)

-- the digit below the last one of the result, and the result's last digit
pub bits_most : (r : ℕ) → r % 2 * (r / 2 % 2) ≤ 1
bits_most r = mul-le-mul {n₂ = 1} {m₂ = 1} (omega arith) (omega arith)

pub cut_digit : (r : ℕ) (c : Bool) → c ≡ true → closest (2 * r + cond c 1 0) 4 ≡ r / 2 + r % 2
cut_digit r c t = go (r % 2) refl
  where
    go : (b : ℕ) → r % 2 ≡ b → closest (2 * r + cond c 1 0) 4 ≡ r / 2 + r % 2
    go zero e = even_digit r c e ∙ omega arith
    go (suc zero) e = rw t (odd_digit r e ∙ omega arith)
    go (suc (suc b)) e = omega arith

pub half_digit : (r : ℕ) (c : Bool) → c ≡ false → closest (2 * r + cond c 1 0) 4 ≡ r / 2 + r % 2 * (r / 2 % 2)
half_digit r c t = go (r % 2) refl
  where
    go : (b : ℕ) → r % 2 ≡ b → closest (2 * r + cond c 1 0) 4 ≡ r / 2 + r % 2 * (r / 2 % 2)
    go zero e = even_digit r c e ∙ rw e (omega arith)
    go (suc zero) e = rw t (tie_digit r e ∙ rw e (omega arith))
    go (suc (suc b)) e = omega arith
