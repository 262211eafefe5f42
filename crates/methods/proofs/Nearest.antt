-- tau is the double nearest the cube root of 2^-52, and mu the double nearest 0.1.
use mathlib.Core.Path.{◌≡◌, refl, sym, ap, ◌∙◌, subst}
use Prim.Native.Nat.{ℕ, suc, ◌+◌, ◌-◌, ◌*◌, ◌^◌, ◌≤◌, ◌<◌}
use native.Mathlib.Decide.{dec_lt}
use native.Mathlib.Omega.{arith}
use native.Mathlib.Nat.{le_trans, lt_of_lt_of_le, lt_of_le_of_lt, le_of_eq, mul-le-mul, mul-le-mul_right, mul-lt-mul_of_pos_right, lt_of_mul-lt-mul_right, mul_assoc, mul_comm, mul_left_comm, add-mul, pow-suc}
use lib.Dec.{lit<}
use lib.Pow.{pow_pos, pow_mono, pow-add}
use lib.Ieee.{Float, of_bits, fits, lt}
use Rattle.arithmetic.specs.Sqrt.{magnitude}
use Rattle.arithmetic.specs.Nearest.{NotNegative}
use Rattle.arithmetic.proofs.Nearest.{held_by}
use Rattle.methods.specs.Factor.{tau, mu}
use Rattle.methods.specs.Constants.{NearerCube, NearestCubeRoot, NearerTenth, NearestTenth}

-- ---- a double that is not m * 2^e is a unit 2^e away at least, where m has 53 digits and is no power of two
module _ (m e : ℕ) (low : 2 ^ 52 < m) (high : m < 2 ^ 53) (c j : ℕ) (small : c < 2 ^ 53) where
  -- from e on the doubles are multiples of 2^e
  multiple : e ≤ j → c * 2 ^ j ≡ c * 2 ^ (j - e) * 2 ^ e
  multiple h = ap (λ (x : ℕ). c * x) (ap (λ (x : ℕ). 2 ^ x) (omega arith) ∙ pow-add 2 (j - e) e) ∙ sym (mul_assoc c (2 ^ (j - e)) (2 ^ e))

  -- below, they are smaller than 2^52 * 2^e
  fine : j < e → c * 2 ^ j + 2 ^ e ≤ m * 2 ^ e
  fine h =
      let a : c * 2 ^ j < 2 ^ 53 * 2 ^ j = mul-lt-mul_of_pos_right small (pow_pos j) in
      let d : 2 ^ suc j ≡ 2 ^ j * 2 = pow-suc 2 j in
      let p : 2 ^ suc j ≤ 2 ^ e = pow_mono h in
      let q : (2 ^ 52 + 1) * 2 ^ e ≤ m * 2 ^ e = mul-le-mul_right (2 ^ e) (omega arith) in
      omega (arith, add-mul (2 ^ 52) 1 (2 ^ e))

  pub above-by_unit : m * 2 ^ e < c * 2 ^ j → m * 2 ^ e + 2 ^ e ≤ c * 2 ^ j
  above-by_unit h = elim (dec_lt j e) [
    | yes p ↦ absurd (omega (arith, fine p))
    | no p ↦
        let r : c * 2 ^ j ≡ c * 2 ^ (j - e) * 2 ^ e = multiple (omega arith) in
        let l : m < c * 2 ^ (j - e) = lt_of_mul-lt-mul_right (2 ^ e) (lt_of_lt_of_le h (le_of_eq r)) in
        omega (arith, add-mul m 1 (2 ^ e), mul-le-mul_right (2 ^ e) l)
  ]

  pub below-by_unit : c * 2 ^ j < m * 2 ^ e → c * 2 ^ j + 2 ^ e ≤ m * 2 ^ e
  below-by_unit h = elim (dec_lt j e) [
    | yes p ↦ fine p
    | no p ↦
        let r : c * 2 ^ j ≡ c * 2 ^ (j - e) * 2 ^ e = multiple (omega arith) in
        let l : c * 2 ^ (j - e) < m = lt_of_mul-lt-mul_right (2 ^ e) (lt_of_le_of_lt (le_of_eq (sym r)) h) in
        omega (arith, add-mul (c * 2 ^ (j - e)) 1 (2 ^ e), mul-le-mul_right (2 ^ e) l)
  ]

-- ---- cubes
cube_le : {a b : ℕ} → a ≤ b → a * a * a ≤ b * b * b
cube_le h = mul-le-mul (mul-le-mul h h) h

cube_mul : (a p : ℕ) → a * p * (a * p) * (a * p) ≡ a * a * a * (p * p * p)
cube_mul a p = simp (mul_assoc, mul_comm, mul_left_comm)

-- (2 m + 1) * 2^e and (2 m - 1) * 2^e, the least and the largest that v + y can be beside v = m * 2^e
module _ (m e n : ℕ) (over : 8 * n < (2 * m + 1) * (2 * m + 1) * (2 * m + 1) * (2 ^ e * 2 ^ e * 2 ^ e)) (under : (2 * m - 1) * (2 * m - 1) * (2 * m - 1) * (2 ^ e * 2 ^ e * 2 ^ e) < 8 * n)
    (low : 2 ^ 52 < m) (high : m < 2 ^ 53) where
  nearer_cube : (c j : ℕ) → c < 2 ^ 53 → NearerCube n (m * 2 ^ e) (c * 2 ^ j)
  nearer_cube c j small = record {
    below = λ h.
        let s : (2 * m + 1) * 2 ^ e ≤ m * 2 ^ e + c * 2 ^ j = omega (arith, above-by_unit m e low high c j small h, add-mul (2 * m) 1 (2 ^ e), mul_assoc 2 m (2 ^ e)) in
        lt_of_lt_of_le over (le_trans (le_of_eq (sym (cube_mul (2 * m + 1) (2 ^ e)))) (cube_le s));
    above = λ h.
        let z : 2 * m - 1 + 1 ≡ 2 * m = omega arith in
        let w : (2 * m - 1 + 1) * 2 ^ e ≡ 2 * m * 2 ^ e = ap (λ (x : ℕ). x * 2 ^ e) z in
        let s : m * 2 ^ e + c * 2 ^ j ≤ (2 * m - 1) * 2 ^ e = omega (arith, below-by_unit m e low high c j small h, add-mul (2 * m - 1) 1 (2 ^ e), mul_assoc 2 m (2 ^ e)) in
        lt_of_le_of_lt (cube_le s) (lt_of_le_of_lt (le_of_eq (cube_mul (2 * m - 1) (2 ^ e))) under);
  }

tau-magnitude : magnitude tau ≡ 7149018786131517 * 2 ^ 1004
unfolding magnitude of_bits
tau-magnitude = refl

tau-not_negative : NotNegative tau
unfolding of_bits fits lt
tau-not_negative = record { double = tt; number = refl; sign = refl }

pub tau-nearest : NearestCubeRoot tau
tau-nearest = record { result = tau-not_negative; nearest = nearest }
  where
    nearest : (y : Float) → NotNegative y → NearerCube (2 ^ 3170) (magnitude tau) (magnitude y)
    nearest y h =
        let k = held_by y h in
        subst (λ (v : ℕ). NearerCube (2 ^ 3170) v (magnitude y)) (sym tau-magnitude)
        (subst (λ (w : ℕ). NearerCube (2 ^ 3170) (7149018786131517 * 2 ^ 1004) w) k.3
        (nearer_cube 7149018786131517 1004 (2 ^ 3170) (lit< tt) (lit< tt) (lit< tt) (lit< tt) k.0 k.1 k.2))

-- ---- a tenth
module _ (m e n : ℕ) (over : 2 * n < 10 * ((2 * m + 1) * 2 ^ e)) (under : 10 * ((2 * m - 1) * 2 ^ e) < 2 * n) (low : 2 ^ 52 < m) (high : m < 2 ^ 53) where
  nearer_tenth : (c j : ℕ) → c < 2 ^ 53 → NearerTenth n (m * 2 ^ e) (c * 2 ^ j)
  nearer_tenth c j small = record {
    below = λ h. omega (arith, above-by_unit m e low high c j small h, add-mul (2 * m) 1 (2 ^ e), mul_assoc 2 m (2 ^ e));
    above = λ h.
        let z : 2 * m - 1 + 1 ≡ 2 * m = omega arith in
        let w : (2 * m - 1 + 1) * 2 ^ e ≡ 2 * m * 2 ^ e = ap (λ (x : ℕ). x * 2 ^ e) z in
        omega (arith, below-by_unit m e low high c j small h, add-mul (2 * m - 1) 1 (2 ^ e), mul_assoc 2 m (2 ^ e));
  }

mu_magnitude : magnitude mu ≡ 7205759403792794 * 2 ^ 1018
unfolding magnitude of_bits
mu_magnitude = refl

mu_not_negative : NotNegative mu
unfolding of_bits fits lt
mu_not_negative = record { double = tt; number = refl; sign = refl }

pub mu_nearest : NearestTenth mu
mu_nearest = record { result = mu_not_negative; nearest = nearest }
  where
    nearest : (y : Float) → NotNegative y → NearerTenth (2 ^ 1074) (magnitude mu) (magnitude y)
    nearest y h =
        let k = held_by y h in
        subst (λ (v : ℕ). NearerTenth (2 ^ 1074) v (magnitude y)) (sym mu_magnitude)
        (subst (λ (w : ℕ). NearerTenth (2 ^ 1074) (7205759403792794 * 2 ^ 1018) w) k.3
        (nearer_tenth 7205759403792794 1018 (2 ^ 1074) (lit< tt) (lit< tt) (lit< tt) (lit< tt) k.0 k.1 k.2))
