-- Comparisons cannot tell equal doubles apart, nor products with them: equals are the same, or two zeros.
use mathlib.Core.Path.{◌≡◌, refl, sym, ap, ap₂, ◌∙◌, subst}
use mathlib.Core.Logic.{◌⊎◌, inl, inr, ⊎_elim}
use mathlib.Core.Bool.{Bool, true, false, ◌||◌, beq, false≢true}
use Prim.Native.Nat.{ℕ, zero, suc, ◌+◌, ◌*◌, ◌<◌}
use native.Mathlib.Nat.{zero-lt-suc, mul-pos, zero-mul}
use native.Mathlib.Decide.{ℕ_discrete}
use native.Mathlib.Omega.{arith}
use lib.IntN.{ℤ}
use lib.Dec.{T, ltb, eqb}
use lib.Pow.{pow_pos}
use borrow.Author.Tests.{eqb-true, ne_eqb, lt-ltb, le-ltb}
use lib.Ieee.{Float, nan, inf, fin, binary64, emax, low, up, down, unlike, below, lt, eq, mul, round, is_nan, fits}
use lib.Ieee.Exact.{HasValue, round_exact}
use lib.Ieee.Fits.{up_pos, down_pos}
use Rattle.arithmetic.proofs.OrderLaws.{and_1, and_2, lt-cotransitive, eq_not_lt, eq_symmetric}
use Rattle.arithmetic.proofs.SameDoubles.{same-double, product-pos}
use Rattle.arithmetic.proofs.Cases.{same_tests, or_left}

pub lt-left : (x y z : Float) → is_nan x ≡ false → is_nan y ≡ false → eq x y ≡ true → lt x z ≡ lt y z
lt-left x y z nx ny e = same_tests (lt x z) (lt y z)
    (λ h. lt-cotransitive x y z ny h (eq_not_lt x y e))
    (λ h. lt-cotransitive y x z nx h (eq_not_lt y x (eq_symmetric x y e)))

abbrev pub is_zero : Float → Bool
is_zero nan = false
is_zero (inf s) = false
is_zero (fin s zero e) = true
is_zero (fin s (suc m) e) = false

beq_eq : (a b : Bool) → beq a b ≡ true → a ≡ b
beq_eq true true e = refl
beq_eq true false e = absurd (false≢true e)
beq_eq false true e = absurd (false≢true e)
beq_eq false false e = refl

-- equal doubles are the same, or two zeros
equal_doubles : (x y : Float) → T (fits binary64 x) → T (fits binary64 y) → eq x y ≡ true → (x ≡ y) ⊎ ((is_zero x ≡ true) × (is_zero y ≡ true))
unfolding eq
equal_doubles nan y p q h = absurd (false≢true h)
equal_doubles (inf a) nan p q h = absurd (false≢true h)
equal_doubles (inf a) (inf b) p q h = inl (ap inf (beq_eq a b h))
equal_doubles (inf a) (fin b n d) p q h = absurd (false≢true h)
equal_doubles (fin a m e) nan p q h = absurd (false≢true h)
equal_doubles (fin a m e) (inf b) p q h = absurd (false≢true h)
equal_doubles (fin a zero e) (fin b zero d) p q h = inr (refl, refl)
equal_doubles (fin a zero e) (fin b (suc n) d) p q h =
    let k = eqb-true (zero * up e * down d) (suc n * up d * down e) (and_1 (eqb (zero * up e * down d) (suc n * up d * down e)) (beq a b || eqb (zero * up e * down d) 0) h) in
    absurd (omega (arith, k, product-pos n d e))
equal_doubles (fin a (suc m) e) (fin b zero d) p q h =
    let k = eqb-true (suc m * up e * down d) (zero * up d * down e) (and_1 (eqb (suc m * up e * down d) (zero * up d * down e)) (beq a b || eqb (suc m * up e * down d) 0) h) in
    absurd (omega (arith, k, product-pos m e d))
equal_doubles (fin a (suc m) e) (fin b (suc n) d) p q h =
    let nz : eqb (suc m * up e * down d) 0 ≡ false = ne_eqb (suc m * up e * down d) 0 (λ z. omega (arith, z, product-pos m e d)) in
    let s : a ≡ b = beq_eq a b (or_left (beq a b) (eqb (suc m * up e * down d) 0) nz (and_2 (eqb (suc m * up e * down d) (suc n * up d * down e)) (beq a b || eqb (suc m * up e * down d) 0) h)) in
    inl (same-double binary64 (fin a (suc m) e) (fin b (suc n) d) p q s h)

-- two zeros, as the right side of a comparison
zeros-right : (z x y : Float) → is_zero x ≡ true → is_zero y ≡ true → lt z x ≡ lt z y
unfolding lt
zeros-right z nan y p q = absurd (false≢true p)
zeros-right z (inf s) y p q = absurd (false≢true p)
zeros-right z (fin s (suc m) e) y p q = absurd (false≢true p)
zeros-right z (fin s zero e) nan p q = absurd (false≢true q)
zeros-right z (fin s zero e) (inf t) p q = absurd (false≢true q)
zeros-right z (fin s zero e) (fin t (suc n) d) p q = absurd (false≢true q)
zeros-right nan (fin s zero e) (fin t zero d) p q = refl
zeros-right (inf u) (fin s zero e) (fin t zero d) p q = refl
zeros-right (fin u o g) (fin s zero e) (fin t zero d) p q = go u s t
  where
    a : ℕ
    a = o * up g

    same0 : (v w : ℕ) → 0 < v → 0 < w → ltb 0 (a * v + 0) ≡ ltb 0 (a * w + 0)
    same0 v w pv pw = elim (ℕ_discrete a 0) [
      | yes k ↦ le-ltb 0 (a * v + 0) (omega (arith, ap (λ (b : ℕ). b * v) k)) ∙ sym (le-ltb 0 (a * w + 0) (omega (arith, ap (λ (b : ℕ). b * w) k)))
      | no k ↦ let pa : 0 < a = omega arith in lt-ltb 0 (a * v + 0) (omega (arith, mul-pos pa pv)) ∙ sym (lt-ltb 0 (a * w + 0) (omega (arith, mul-pos pa pw)))
    ]

    low0 : (v x : ℕ) → x ≡ 0 → ltb v x ≡ false
    low0 v x k = le-ltb v x (omega arith)

    ze : 0 * up e * down g ≡ 0
    ze = omega arith

    zd : 0 * up d * down g ≡ 0
    zd = omega arith

    neg_pos : (v x : ℕ) → x ≡ 0 → ltb 0 (a * v + x) ≡ ltb 0 (a * v + 0)
    neg_pos v x k = ap (λ (b : ℕ). ltb 0 (a * v + b)) k

    neg_neg : (v x : ℕ) → x ≡ 0 → ltb x (a * v) ≡ ltb 0 (a * v + 0)
    neg_neg v x k = let k2 : a * v ≡ a * v + 0 = omega arith in ap₂ ltb k k2

    go : (u s t : Bool) → below u (a * down e) s (0 * up e * down g) ≡ below u (a * down d) t (0 * up d * down g)
    go false false false = low0 (a * down e) (0 * up e * down g) ze ∙ sym (low0 (a * down d) (0 * up d * down g) zd)
    go false false true = low0 (a * down e) (0 * up e * down g) ze
    go false true false = sym (low0 (a * down d) (0 * up d * down g) zd)
    go false true true = refl
    go true false false = neg_pos (down e) (0 * up e * down g) ze ∙ same0 (down e) (down d) (down_pos e) (down_pos d) ∙ sym (neg_pos (down d) (0 * up d * down g) zd)
    go true false true = neg_pos (down e) (0 * up e * down g) ze ∙ same0 (down e) (down d) (down_pos e) (down_pos d) ∙ sym (neg_neg (down d) (0 * up d * down g) zd)
    go true true false = neg_neg (down e) (0 * up e * down g) ze ∙ same0 (down e) (down d) (down_pos e) (down_pos d) ∙ sym (neg_pos (down d) (0 * up d * down g) zd)
    go true true true = neg_neg (down e) (0 * up e * down g) ze ∙ same0 (down e) (down d) (down_pos e) (down_pos d) ∙ sym (neg_neg (down d) (0 * up d * down g) zd)

zero_value : (x : Float) (s : Bool) (c : ℕ) → 0 < c → HasValue x s 0 c → is_zero x ≡ true
zero_value nan s c h v = absurd v
zero_value (inf t) s c h v = absurd v
zero_value (fin t zero e) s c h v = refl
zero_value (fin t (suc m) e) s c h v = absurd (omega (arith, v.1, mul-pos (mul-pos (zero-lt-suc m) (up_pos e)) h))

round-zero : (s : Bool) (den : ℕ) → 0 < den → is_zero (round binary64 s 0 den) ≡ true
round-zero s den h = zero_value (round binary64 s 0 den) s den h (round_exact binary64 s 0 den 0 0 h (pow_pos 53) (pow_pos (low binary64 + suc (emax binary64))) (sym (zero-mul den)))

-- a product of a finite number with a zero is a zero
pub mul-zeros : (s : Bool) (m : ℕ) (e : ℤ) (x : Float) → is_zero x ≡ true → is_zero (mul binary64 (fin s m e) x) ≡ true
unfolding mul
mul-zeros s m e nan h = absurd (false≢true h)
mul-zeros s m e (inf t) h = absurd (false≢true h)
mul-zeros s m e (fin t (suc n) d) h = absurd (false≢true h)
mul-zeros s m e (fin t zero d) h =
    let z : m * up e * (0 * up d) ≡ 0 = omega arith in
    subst (λ (k : ℕ). is_zero (round binary64 (unlike s t) k (down e * down d)) ≡ true) (sym z) (round-zero (unlike s t) (down e * down d) (mul-pos (down_pos e) (down_pos d)))

-- a product with either zero is the same limit
zeros-limit : (c x y z : Float) → is_zero x ≡ true → is_zero y ≡ true → lt z (mul binary64 c x) ≡ lt z (mul binary64 c y)
unfolding mul
zeros-limit nan x y z p q = refl
zeros-limit (inf s) nan y z p q = absurd (false≢true p)
zeros-limit (inf s) (inf t) y z p q = absurd (false≢true p)
zeros-limit (inf s) (fin t (suc m) e) y z p q = absurd (false≢true p)
zeros-limit (inf s) (fin t zero e) nan z p q = absurd (false≢true q)
zeros-limit (inf s) (fin t zero e) (inf u) z p q = absurd (false≢true q)
zeros-limit (inf s) (fin t zero e) (fin u (suc n) d) z p q = absurd (false≢true q)
zeros-limit (inf s) (fin t zero e) (fin u zero d) z p q = refl
zeros-limit (fin s m e) x y z p q = zeros-right z (mul binary64 (fin s m e) x) (mul binary64 (fin s m e) y) (mul-zeros s m e x p) (mul-zeros s m e y q)

-- so a product with either of two equals is the same limit
pub limit_along : (c x y z : Float) → T (fits binary64 x) → T (fits binary64 y) → eq x y ≡ true → lt z (mul binary64 c x) ≡ lt z (mul binary64 c y)
limit_along c x y z p q h = ⊎_elim
    (λ k. ap (λ (v : Float). lt z (mul binary64 c v)) k)
    (λ k. zeros-limit c x y z k.0 k.1)
    (equal_doubles x y p q h)
