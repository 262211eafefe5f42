-- The second stage: a significand brought to 53 digits by its leading zeros, and the scale.
use mathlib.Core.Path.{◌≡◌, refl, sym, ap, ◌∙◌}
use Prim.Native.Nat.{ℕ, zero, suc, ◌+◌, ◌-◌, ◌*◌, ◌/◌, ◌%◌, ◌^◌, ◌≤◌, ◌<◌}
use native.Mathlib.Omega.{arith}
use native.Mathlib.Nat.{le_trans, lt_of_le_of_lt, lt_of_lt_of_le, le_of_eq, lt_of_not-le, not-le_of_lt, mul-le-mul_left, mul-le-mul_right, mul-lt-mul_of_pos_right, mul_assoc, mul-mul-mul_comm, mod-eq_of_lt, mul-pos}
use lib.Dec.{ltb, lt→ltb, lit≤}
use lib.Arith.{le→nltb}
use lib.Count.{count_leading_zeros, leading_top}
use lib.Pow.{pow_pos, pow_mono, pow-add}
use lib.Ieee.{Float}
use lib.Ieee.Bits.{is_true, is_false}
use Rattle.arithmetic.specs.Sqrt.{magnitude}
use Rattle.arithmetic.specs.SqrtStages.{Significand, Remainder}
use Rattle.arithmetic.specs.InfinitelyPrecise.{WholeRoot}
use Rattle.arithmetic.proofs.Doubling.{remainder_whole, least, most}

pub record Shifted (significand z : ℕ) : Type 0 where
  pub zlo : 11 ≤ z
  pub zhi : z ≤ 63
  pub is : significand * 2 ^ (z - 11) % 2 ^ 64 ≡ significand * 2 ^ (z - 11)
  pub lo : 2 ^ 52 ≤ significand * 2 ^ (z - 11)
  pub hi : significand * 2 ^ (z - 11) < 2 ^ 53

pub shifted : (significand : ℕ) → 0 < significand → significand < 2 ^ 53 → Shifted significand (count_leading_zeros 64 significand)
shifted significand some small = record { zlo = zlo; zhi = zhi; is = mod-eq_of_lt (lt_of_lt_of_le hi (lit≤ tt)); lo = lo; hi = hi }
  where
    z : ℕ
    z = count_leading_zeros 64 significand

    top : (j : ℕ) × (z + suc j ≡ 64) × (2 ^ j ≤ significand) × (significand < 2 ^ suc j)
    top = leading_top 64 significand some (lt_of_lt_of_le small (lit≤ tt))

    j : ℕ
    j = top.0

    few : j < 53
    few = lt_of_not-le (λ (g : 53 ≤ j). not-le_of_lt small (le_trans (pow_mono g) top.2))

    zlo : 11 ≤ z
    zlo = omega (arith, top.1, few)

    zhi : z ≤ 63
    zhi = omega (arith, top.1, few)

    exact : j + (z - 11) ≡ 52
    exact = omega (arith, top.1, few)

    lo : 2 ^ 52 ≤ significand * 2 ^ (z - 11)
    lo = le_trans (le_of_eq (ap (λ (n : ℕ). 2 ^ n) (sym exact) ∙ pow-add 2 j (z - 11))) (mul-le-mul_right (2 ^ (z - 11)) top.2)

    exact' : suc j + (z - 11) ≡ 53
    exact' = omega (arith, top.1, few)

    hi : significand * 2 ^ (z - 11) < 2 ^ 53
    hi = lt_of_lt_of_le (mul-lt-mul_of_pos_right top.3 (pow_pos (z - 11))) (le_of_eq (sym (ap (λ (n : ℕ). 2 ^ n) (sym exact') ∙ pow-add 2 (suc j) (z - 11))))

-- a digit of base 2 as a power
parity : (p : ℕ) → 1 + p % 2 ≡ 2 ^ (p % 2)
parity p = go (p % 2) refl
  where
    go : (b : ℕ) → p % 2 ≡ b → 1 + b ≡ 2 ^ b
    go zero e = refl
    go (suc zero) e = refl
    go (suc (suc b)) e = omega arith

powers : (t b c h : ℕ) → 2 ^ (t + b + c + (h + h)) ≡ 2 ^ t * 2 ^ b * 2 ^ c * (2 ^ h * 2 ^ h)
powers t b c h = rw (pow-add 2 (t + b + c) (h + h), pow-add 2 (t + b) c, pow-add 2 t b, pow-add 2 h h)

-- ---- a root with its remainder, brought to a scale
module _ (N w r d D : ℕ) (q : Remainder w r d) (e : w * (D * D) ≡ N) (pos : 0 < D) where
  square : r * D * (r * D) ≡ r * r * (D * D)
  square = mul-mul-mul_comm r D r D

  under : r * D * (r * D) ≤ N
  under = le_trans (le_of_eq square) (le_trans (mul-le-mul_right (D * D) (remainder_whole q).under) (le_of_eq e))

  over : N < (r + 1) * D * ((r + 1) * D)
  over = lt_of_le_of_lt (le_of_eq (sym e)) (lt_of_lt_of_le (mul-lt-mul_of_pos_right (remainder_whole q).over (mul-pos pos pos)) (le_of_eq (sym (mul-mul-mul_comm (r + 1) D (r + 1) D))))

  flag : ltb 0 d ≡ ltb (r * D * (r * D)) N
  flag = go d refl
    where
      go : (n : ℕ) → d ≡ n → ltb 0 d ≡ ltb (r * D * (r * D)) N
      go zero z =
          let f : r * r ≡ w = omega (arith, q.total) in
          is_false _ (le→nltb 0 d (omega arith)) ∙ sym (is_false _ (le→nltb (r * D * (r * D)) N (le_of_eq (sym e ∙ ap (λ (n : ℕ). n * (D * D)) (sym f) ∙ sym square))))
      go (suc n) z =
          let l : r * r < w = omega (arith, q.total) in
          is_true _ (lt→ltb 0 d (omega arith)) ∙ sym (is_true _ (lt→ltb (r * D * (r * D)) N (lt_of_le_of_lt (le_of_eq square) (lt_of_lt_of_le (mul-lt-mul_of_pos_right l (mul-pos pos pos)) (le_of_eq e)))))

once : (x b : ℕ) → x ≤ x * (1 + b)
once x b = omega (arith, mul-le-mul_left {m = 1} {n = 1 + b} x (omega arith))

twice : (x b : ℕ) → b ≤ 1 → x * (1 + b) ≤ 2 * x
twice x b h = omega (arith, mul-le-mul_left {m = 1 + b} {n = 2} x (omega arith))

-- the significand at 53 digits, with an odd power's factor
module _ {significand z : ℕ} (s : Shifted significand z) (p : ℕ) where
  abbrev pub radicand : ℕ
  radicand = significand * 2 ^ (z - 11) * (1 + p % 2)

  pub radicand_least : 2 ^ 52 ≤ radicand
  radicand_least = omega (arith, once (significand * 2 ^ (z - 11)) (p % 2))

  pub radicand_most : radicand < 2 ^ 54
  radicand_most = omega (arith, twice (significand * 2 ^ (z - 11)) (p % 2) (omega arith))

-- ---- what the second stage hands on
module _ (x : Float) (significand exponent z : ℕ) (k : Significand (magnitude x) significand exponent) (s : Shifted significand z) where
  -- the power of two that is left beside the number under the root, which is the radicand with 54 digits more
  abbrev pub power : ℕ
  power = exponent + 1020 - (z - 11)

  scaled : radicand s power * 2 ^ 54 * (2 ^ (power / 2) * 2 ^ (power / 2)) ≡ magnitude x * 2 ^ 1074
  scaled =
      let t : ℕ = z - 11 in
      let b : ℕ = power % 2 in
      let h : ℕ = power / 2 in
      let e : t + b + 54 + (h + h) ≡ exponent + 1074 = omega (arith, s.zhi) in
      ap (λ (n : ℕ). significand * 2 ^ t * n * 2 ^ 54 * (2 ^ h * 2 ^ h)) (parity power)
      ∙ gather significand (2 ^ t) (2 ^ b) (2 ^ 54) (2 ^ h * 2 ^ h)
      ∙ ap (λ (n : ℕ). significand * n) (sym (powers t b 54 h) ∙ ap (λ (n : ℕ). 2 ^ n) e ∙ pow-add 2 exponent 1074)
      ∙ sym (mul_assoc significand (2 ^ exponent) (2 ^ 1074))
      ∙ ap (λ (n : ℕ). n * 2 ^ 1074) k.is
    where
      gather : (s a b c d : ℕ) → s * a * b * c * d ≡ s * (a * b * c * d)
      gather s a b c d = simp mul_assoc

  pub rooted : (r d : ℕ) → Remainder (radicand s power * 2 ^ 54) r d → WholeRoot x r (ltb 0 d) (power / 2)
  rooted r d q =
      let D : ℕ = 2 ^ (power / 2) in
      record {
        under = under _ _ r d D q scaled (pow_pos (power / 2));
        over = over _ _ r d D q scaled (pow_pos (power / 2));
        flag = flag _ _ r d D q scaled (pow_pos (power / 2));
        least = omega (arith, least (2 ^ 53) q (omega (arith, radicand_least s power)));
        most = most (2 ^ 54) q (omega (arith, radicand_most s power));
      }
