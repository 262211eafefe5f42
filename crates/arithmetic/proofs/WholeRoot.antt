-- `isqrt n` is the whole part of the root of n.
use mathlib.Core.Path.{◌≡◌, refl, sym, ap, ◌∙◌}
use mathlib.Core.Bool.{Bool, true, false, not, cond}
use Prim.Native.Nat.{ℕ, zero, suc, ◌+◌, ◌*◌, ◌/◌, ◌^◌, ◌≤◌, ◌<◌}
use native.Mathlib.Omega.{arith}
use native.Mathlib.Nat.{le_trans, lt_of_le_of_lt, lt_of_lt_of_le, le_of_lt, mul-le-mul, mul-lt-mul_of_pos_right, mul-add, add-mul, mul_assoc, mul_left_comm, lt_of_not-le, not-le_of_lt, pow-suc, le_of_eq}
use lib.Dec.{T, leb, leb→le, nleb→lt}
use lib.Pow.{pow_mono, pow-add}
use lib.Ieee.{size}
use lib.Ieee.Digits.{size-lt}
use Rattle.arithmetic.specs.Sqrt.{isqrt_of, isqrt}

-- r is the whole part of the root of n
pub record Whole (n r : ℕ) : Type 0 where
  pub under : r * r ≤ n
  pub over : n < (r + 1) * (r + 1)

pub sq_step : (r : ℕ) → (r + 1) * (r + 1) ≡ r * r + 2 * r + 1
sq_step r = simp (mul-add, add-mul) (omega arith)

-- there is only one
pub lt-square : {a b : ℕ} → a * a < (b + 1) * (b + 1) → a ≤ b
lt-square {a} {b} h = omega (arith, lt_of_not-le (λ (g : b + 1 ≤ a). not-le_of_lt h (mul-le-mul g g)))

pub less_root : {a b : ℕ} → a * a < b * b → a < b
less_root {a} {b} h = lt_of_not-le (λ (g : b ≤ a). not-le_of_lt h (mul-le-mul g g))

pub square-lt : {a b : ℕ} → a < b → a * a < b * b
square-lt {a} {b} h = lt_of_le_of_lt (mul-le-mul {n₁ = a} {m₁ = a} {n₂ = a} {m₂ = b} (le_of_eq refl) (le_of_lt h)) (mul-lt-mul_of_pos_right h (omega arith))

-- what has a square above something is not 0
pub some-root : (r a : ℕ) → a < r * r → 0 < r
some-root r a h = less_root {a = 0} {b = r} (omega arith)

-- one more digit of base 4
doubled_under : (n q : ℕ) → q * q ≤ n / 4 → 2 * q * (2 * q) ≤ n
doubled_under n q h =
    let e : 2 * q * (2 * q) ≡ 4 * (q * q) = simp (mul_assoc, mul_left_comm) (omega arith) in
    omega arith

doubled_over : (n q : ℕ) → n / 4 < (q + 1) * (q + 1) → n < (2 * q + 1 + 1) * (2 * q + 1 + 1)
doubled_over n q h =
    let e : (2 * q + 1 + 1) * (2 * q + 1 + 1) ≡ 4 * ((q + 1) * (q + 1)) = simp (mul-add, add-mul) (simp (mul_assoc, mul_left_comm) (omega arith)) in
    omega arith

next_digit : (n q : ℕ) → Whole (n / 4) q → Whole n (cond (leb ((2 * q + 1) * (2 * q + 1)) n) (2 * q + 1) (2 * q))
next_digit n q ih = go (leb ((2 * q + 1) * (2 * q + 1)) n) (leb→le _ _) (nleb→lt _ _)
  where
    go : (b : Bool) → (T b → (2 * q + 1) * (2 * q + 1) ≤ n) → (T (not b) → n < (2 * q + 1) * (2 * q + 1)) → Whole n (cond b (2 * q + 1) (2 * q))
    go true y m = record { under = y tt; over = doubled_over n q ih.over }
    go false y m = record { under = doubled_under n q ih.under; over = m tt }

isqrt_of-whole : (k n : ℕ) → n < 4 ^ k → Whole n (isqrt_of k n)
unfolding isqrt_of
isqrt_of-whole zero n h = record { under = omega arith; over = omega arith }
isqrt_of-whole (suc k) n h = next_digit n (isqrt_of k (n / 4)) (isqrt_of-whole k (n / 4) (let g : n < 4 ^ k * 4 = rw pow-suc at h in omega arith))

four_pow : (k : ℕ) → 4 ^ k ≡ 2 ^ (k + k)
four_pow zero = refl
four_pow (suc k) =
    let e : 2 ^ (suc k + suc k) ≡ 2 ^ (k + k) * 4 = ap (λ (n : ℕ). 2 ^ n) (omega arith) ∙ pow-add 2 (k + k) 2 in
    rw (pow-suc 4 k, four_pow k) (sym e)

pub isqrt-whole : (n : ℕ) → Whole n (isqrt n)
unfolding isqrt
isqrt-whole n =
    let k : ℕ = size n / 2 + 1 in
    isqrt_of-whole k n (lt_of_lt_of_le (size-lt n) (le_trans (pow_mono {i = size n} {j = k + k} (omega arith)) (le_of_eq (sym (four_pow k)))))
