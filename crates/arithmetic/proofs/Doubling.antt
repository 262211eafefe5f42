-- Twice as many digits of a root by one division, after Zimmermann, Karatsuba Square Root, 1999.
-- With s * s + d the number so far and d * b = 2 * s * q + m: the number times b * b is (s * b + q) ^ 2 + m * b - q * q.
use mathlib.Core.Path.{◌≡◌, ap}
use Prim.Native.Nat.{ℕ, suc, ◌+◌, ◌*◌, ◌/◌, ◌%◌, ◌^◌, ◌≤◌, ◌<◌}
use native.Mathlib.Omega.{arith}
use native.Mathlib.Nat.{le_trans, lt_of_le_of_lt, le_of_lt, le_of_suc-le-suc, suc-mul, mul-le-mul, mul-le-mul_right, mul-add, add-mul, mul_assoc, mul_comm, mul_left_comm, mod-lt, div-add-mod', div-lt_iff_lt-mul}
use Rattle.arithmetic.specs.SqrtStages.{Digits, Remainder}
use Rattle.arithmetic.proofs.WholeRoot.{Whole, sq_step, lt-square, less_root}

abbrev pub quotient : ℕ → ℕ → ℕ → ℕ
quotient s d b = d * b / (2 * s)

abbrev pub modulus : ℕ → ℕ → ℕ → ℕ
modulus s d b = d * b % (2 * s)

pub record Bounds (s d b : ℕ) : Type 0 where
  pub area : s * b ≤ 2 ^ 54
  pub start : d * b ≤ 2 * (s * b)
  pub rest : modulus s d b * b < 2 * (s * b)
  pub digit : quotient s d b ≤ b
  pub square : quotient s d b * quotient s d b ≤ 2 * (s * b)

pub bounds : (s d b : ℕ) → Digits s d b → Bounds s d b
bounds s d b k = record { area = area; start = start; rest = rest; digit = digit; square = le_trans (mul-le-mul digit digit) (le_trans (mul-le-mul_right b k.base) (omega (arith, mul_assoc 2 s b))) }
  where
    area : s * b ≤ 2 ^ 54
    area = mul-le-mul {n₂ = 2 ^ 27} {m₂ = 2 ^ 27} (le_of_lt k.most) k.wide

    start : d * b ≤ 2 * (s * b)
    start = omega (arith, mul_assoc 2 s b, mul-le-mul_right b k.rest)

    rest : modulus s d b * b < 2 * (s * b)
    rest =
        let l : modulus s d b < 2 * s = mod-lt (d * b) (omega arith) in
        omega (arith, mul_assoc 2 s b, mul-le-mul_right b l, suc-mul (modulus s d b) b)

    digit : quotient s d b ≤ b
    digit = le_of_suc-le-suc ((div-lt_iff_lt-mul {k = 2 * s} {x = d * b} {y = suc b} (omega arith)).1 (omega (arith, start, suc-mul b (2 * s), mul_comm b (2 * s), mul_assoc 2 s b)))

-- the number times b * b, and q * q more
pub total : (s d b : ℕ) → (s * s + d) * (b * b) + quotient s d b * quotient s d b ≡ (s * b + quotient s d b) * (s * b + quotient s d b) + modulus s d b * b
total s d b =
    let q : ℕ = quotient s d b in
    let m : ℕ = modulus s d b in
    let e : (q * (2 * s) + m) * b ≡ d * b * b = ap (λ (x : ℕ). x * b) (div-add-mod' (d * b) (2 * s)) in
    expand s d b q m e
  where
    expand : (s d b q m : ℕ) → (q * (2 * s) + m) * b ≡ d * b * b → (s * s + d) * (b * b) + q * q ≡ (s * b + q) * (s * b + q) + m * b
    expand s d b q m e =
        let f = simp (add-mul, mul-add, mul_assoc, mul_comm, mul_left_comm) at e in
        simp (add-mul, mul-add, mul_assoc, mul_comm, mul_left_comm) (omega arith)

-- ---- a whole root with its remainder, and bounds on it
pub remainder_whole : {n r d : ℕ} → Remainder n r d → Whole n r
remainder_whole {n} {r} {d} k = record { under = omega arith; over = omega (arith, sq_step r) }

pub least : {n r d : ℕ} (l : ℕ) → Remainder n r d → l * l ≤ n → l ≤ r
least l k h = lt-square (lt_of_le_of_lt h (remainder_whole k).over)

pub most : {n r d : ℕ} (u : ℕ) → Remainder n r d → n < u * u → r < u
most u k h = less_root (lt_of_le_of_lt (remainder_whole k).under h)
