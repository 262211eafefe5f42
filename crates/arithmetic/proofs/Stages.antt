-- The stages: the root of every operand that is no positive double, what the second stage hands on (`whole-root`), and that rounding
-- makes the root of it.
use mathlib.Core.Path.{◌≡◌, refl, sym, ap, ◌∙◌, subst}
use mathlib.Core.Bool.{Bool, true, false}
use mathlib.Core.Logic.{inl, inr}
use Prim.Native.Nat.{ℕ, zero, suc, ◌+◌, ◌-◌, ◌*◌, ◌%◌, ◌^◌, ◌≤◌, ◌<◌}
use native.Mathlib.Omega.{arith}
use native.Mathlib.Nat.{zero-lt-suc, le_trans, le_antisymm, le_of_lt, le_of_eq, le_of_suc-le-suc, lt_of_le_of_lt, lt_of_not-le, not-le_of_lt, eq-or-lt_of_le, mul-le-mul, mul-le-mul_right, lt_of_mul-lt-mul_right, mul_assoc, one-mul, pow-suc}
use lib.Dec.{T, leb, ltb, lt→ltb, leb→le, ltb→lt, lit<, lit≤}
use lib.Count.{count_leading_zeros}
use lib.Pow.{pow-add, pow_mono}
use lib.Ieee.{Float, nan, inf, fin, binary64, fits, of_bits, lt}
use lib.Ieee.Scale.{finite}
use lib.Ieee.Positive.{positive}
use Rattle.arithmetic.specs.Double.{plus_zero}
use Rattle.arithmetic.specs.Sqrt.{magnitude_of, magnitude, isqrt, nearest_to, root_of, sqrt}
use Rattle.arithmetic.specs.SqrtStages.{Remainder}
use Rattle.arithmetic.specs.InfinitelyPrecise.{WholeRoot, HandedOn, WholeRootTheorem, Examples}
use Rattle.arithmetic.proofs.Operand.{Zero, zero_of, Negative, negative_inf, negative_of, Rest, rest-nan, rest-inf, rest_of, holds, fails}
use Rattle.arithmetic.proofs.WholeRoot.{Whole, isqrt-whole, sq_step, less_root}
use Rattle.arithmetic.proofs.Fields.{held}
use Rattle.arithmetic.proofs.Normalized.{shifted, radicand, power, rooted}
use Rattle.arithmetic.proofs.Distance.{even_whole}
use Rattle.arithmetic.proofs.Rounding.{same-root}

pub zero_root : {x : Float} → Zero x → x ≡ sqrt x
unfolding sqrt
zero_root (zero_of s e) = refl

pub negative_root : {x : Float} → Negative x → nan ≡ sqrt x
unfolding sqrt
negative_root negative_inf = refl
negative_root (negative_of m e) = refl

-- below infinity, and not negative
pub finite_below : (x : Float) → lt x plus_zero ≡ false → lt x (inf false) ≡ true → finite x ≡ true
unfolding lt of_bits
finite_below nan h k = absurd (holds k)
finite_below (inf false) h k = absurd (holds k)
finite_below (inf true) h k = absurd (fails h tt)
finite_below (fin s m e) h k = refl

pub other_root : (x : Float) → lt x plus_zero ≡ false → lt x (inf false) ≡ false → x ≡ sqrt x
unfolding sqrt lt of_bits
other_root nan h k = refl
other_root (inf false) h k = refl
other_root (inf true) h k = absurd (fails h tt)
other_root (fin s m e) h k = absurd (fails k tt)

pub positive_rest : {x : Float} → Rest x → finite x ≡ true → T (positive x)
positive_rest rest-nan h = absurd (holds h)
positive_rest rest-inf h = absurd (holds h)
positive_rest (rest_of m e) h = lt→ltb 0 (suc m) (zero-lt-suc m)

root-case : (x : Float) → T (positive x) → sqrt x ≡ root_of (magnitude x)
unfolding sqrt magnitude
root-case nan p = absurd p
root-case (inf s) p = absurd p
root-case (fin true m e) p = absurd p
root-case (fin false zero e) p = absurd p
root-case (fin false (suc m) e) p = refl

root_is : (n : ℕ) → root_of n ≡ nearest_to (isqrt (n * 2 ^ 1074)) (ltb (isqrt (n * 2 ^ 1074) * isqrt (n * 2 ^ 1074)) (n * 2 ^ 1074)) 0
unfolding root_of
root_is n = refl

pub joined : (x : Float) (r : ℕ) (cut : Bool) (scale : ℕ) → T (positive x) → WholeRoot x r cut scale → nearest_to r cut scale ≡ sqrt x
joined x r cut scale p R =
    same-root (magnitude x * 2 ^ 1074) r cut scale R.under R.over R.flag R.least R.most
    ∙ sym (root_is (magnitude x))
    ∙ sym (root-case x p)

-- ---- what the second stage hands on: one scale, one whole part, one flag
module _ {x : Float} {r t s u : ℕ} {c d : Bool} (R : WholeRoot x r c s) (S : WholeRoot x t d u) where
  between : r * 2 ^ s < (t + 1) * 2 ^ u
  between = less_root (lt_of_le_of_lt R.under S.over)

  scale-most : s ≤ u
  scale-most = le_of_suc-le-suc (lt_of_not-le (λ (l : suc u ≤ s). omega (arith, between, mul-le-mul_right (2 ^ s) R.least, mul-le-mul_right {m = t + 1} {n = 2 ^ 54} (2 ^ u) (omega (arith, S.most)), pow-suc 2 u, pow_mono l)))

same_whole : {x : Float} {r t s : ℕ} {c d : Bool} → WholeRoot x r c s → WholeRoot x t d s → r ≤ t
same_whole {x} {r} {t} {s} R S = omega (arith, lt_of_mul-lt-mul_right (2 ^ s) {m = r} {n = t + 1} (between R S))

same-handed : {x : Float} {r t s u : ℕ} {c d : Bool} → WholeRoot x r c s → WholeRoot x t d u → (r ≡ t) × (c ≡ d) × (s ≡ u)
same-handed {x} {r} {t} {s} {u} {c} {d} R S = (e, R.flag ∙ ap (λ (n : ℕ). ltb (n * 2 ^ s * (n * 2 ^ s)) (magnitude x * 2 ^ 1074)) e ∙ sym U.flag, z)
  where
    z : s ≡ u
    z = le_antisymm (scale-most R S) (scale-most S R)

    U : WholeRoot x t d s
    U = subst (WholeRoot x t d) (sym z) S

    e : r ≡ t
    e = le_antisymm (same_whole R U) (same_whole U R)

remainder_of : (w r : ℕ) → Whole w r → Remainder w r (w - r * r)
remainder_of w r p = record { total = omega arith; rest = omega (arith, sq_step r) }

handed-on : {x : Float} {r s : ℕ} {c : Bool} → T (positive x) → WholeRoot x r c s → HandedOn x
handed-on {x} {r} {s} {c} p R = record { whole = r; cut = c; scale = s; is = R; only = λ t d u S. same-handed S R; rounded = sym (joined x r c s p R) }

pub whole-root : WholeRootTheorem
whole-root x f p =
    let h = held x f p in
    let z : ℕ = count_leading_zeros 64 h.significand in
    let t = shifted h.significand h.value.some h.value.digits in
    let w : ℕ = radicand t (power x h.significand h.exponent z h.value t) * 2 ^ 54 in
    handed-on p (rooted x h.significand h.exponent z h.value t (isqrt w) (w - isqrt w * isqrt w) (remainder_of w (isqrt w) (isqrt-whole w)))

-- ---- what rounding asks of the scale, and that no tie occurs
module _ (x : Float) (f : T (fits binary64 x)) (p : T (positive x)) (r : ℕ) (cut : Bool) (scale : ℕ) (R : WholeRoot x r cut scale) where
  under-most : magnitude x * 2 ^ 1074 < 2 ^ 1587 * 2 ^ 1587
  under-most =
      let h = held x f p in
      lt_of_le_of_lt (le_trans (le_of_eq (ap (λ (n : ℕ). n * 2 ^ 1074) (sym h.value.is))) (mul-le-mul_right (2 ^ 1074) (mul-le-mul (le_of_lt h.value.digits) (pow_mono h.value.most)))) (lit< tt)

  pub scale_small : scale < 2000
  scale_small = lt_of_not-le (λ (l : 2000 ≤ scale). not-le_of_lt (lt_of_le_of_lt (le_trans (pow_mono l) (le_trans (le_of_eq (sym (one-mul (2 ^ scale)))) (mul-le-mul_right (2 ^ scale) (le_trans (lit≤ tt) R.least)))) (less_root {a = r * 2 ^ scale} {b = 2 ^ 1587} (lt_of_le_of_lt R.under under-most))) (lit≤ tt))

  pub odd_cut : r % 2 ≡ 1 → r * 2 ^ scale * (r * 2 ^ scale) < magnitude x * 2 ^ 1074
  odd_cut o = elim (eq-or-lt_of_le R.under) [
    | inl z ↦
        let h = held x f p in
        absurd (omega (arith, even_whole h.significand (h.exponent + 1074) r scale h.value.digits R.least (z ∙ ap (λ (n : ℕ). n * 2 ^ 1074) (sym h.value.is) ∙ mul_assoc h.significand (2 ^ h.exponent) (2 ^ 1074) ∙ ap (λ (n : ℕ). h.significand * n) (sym (pow-add 2 h.exponent 1074)))))
    | inr l ↦ l
  ]

-- ---- by hand
worked : {x : Float} {r : ℕ} {c : Bool} {s : ℕ} → T (leb (r * 2 ^ s * (r * 2 ^ s)) (magnitude x * 2 ^ 1074)) → T (ltb (magnitude x * 2 ^ 1074) ((r + 1) * 2 ^ s * ((r + 1) * 2 ^ s)))
    → c ≡ ltb (r * 2 ^ s * (r * 2 ^ s)) (magnitude x * 2 ^ 1074) → T (leb (2 ^ 53) r) → T (ltb r (2 ^ 54)) → WholeRoot x r c s
worked under over flag least most = record { under = leb→le _ _ under; over = ltb→lt _ _ over; flag = flag; least = leb→le _ _ least; most = ltb→lt _ _ most }

pub examples : Examples
unfolding magnitude magnitude_of of_bits
examples = (worked tt tt refl tt tt, worked tt tt refl tt tt, worked tt tt refl tt tt, worked tt tt refl tt tt, worked tt tt refl tt tt)
