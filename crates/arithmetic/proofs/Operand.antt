-- What the tests in src/double.rt and src/sqrt.rt say of an operand.
use mathlib.Core.Path.{◌≡◌, refl, sym, ap, ◌∙◌, subst}
use mathlib.Core.Bool.{Bool, true, false, not, ◌&&◌, ◌||◌, cond, beq, false≢true}
use Prim.Native.Nat.{ℕ, zero, suc, ◌+◌, ◌-◌, ◌*◌, ◌<◌}
use native.Mathlib.Omega.{arith}
use native.Mathlib.Nat.{mul-pos, zero-mul, zero-lt-suc}
use lib.IntN.{ℤ}
use lib.Dec.{T, eqb, ltb, eqb→eq, ltb→lt, lt→ltb, eqb_refl}
use lib.Ieee.{Float, nan, inf, fin, binary64, of_bits, up, down, neg, add, sub, sum, round, lt, le, eq, ne, level, is_nan, fits}
use lib.Ieee.Bits.{is_true}
use lib.Ieee.Fits.{up_pos, down_pos, and_l}
use lib.Ieee.Scale.{finite, round_same}
use Rattle.arithmetic.specs.Double.{plus_zero, abs}
use Rattle.arithmetic.proofs.SameDoubles.{zero_exp, beq_self}

pub holds : {b : Bool} → b ≡ true → T b
holds e = subst T (sym e) tt

pub fails : {b : Bool} → b ≡ false → T b → ⊥
fails e t = subst T e t

-- ---- against zero

above : (m : ℕ) (e : ℤ) → 0 < suc m * up e * 1
above m e = mul-pos (mul-pos (zero-lt-suc m) (up_pos e)) (omega arith)

none : (e : ℤ) → 0 * up e * 1 ≡ 0
none e = rw (zero-mul (up e)) refl

-- a number that equals zero is a zero
pub data Zero : Float → Type 0 where
  zero_of : (s : Bool) (e : ℤ) → Zero (fin s 0 e)

pub zero_value : (x : Float) → eq x plus_zero ≡ true → Zero x
unfolding eq of_bits
zero_value nan h = absurd (holds h)
zero_value (inf s) h = absurd (holds h)
zero_value (fin s zero e) h = zero_of s e
zero_value (fin s (suc m) e) h = absurd (omega (arith, above m e, eqb→eq (suc m * up e * 1) (0 * 1 * down e) (and_l (eqb (suc m * up e * 1) (0 * 1 * down e)) (beq s false || eqb (suc m * up e * 1) 0) (holds h)), zero-mul (down e)))

-- a number below zero
pub data Negative : Float → Type 0 where
  negative_inf : Negative (inf true)
  negative_of : (m : ℕ) (e : ℤ) → Negative (fin true (suc m) e)

pub negative_value : (x : Float) → lt x plus_zero ≡ true → Negative x
unfolding lt of_bits
negative_value nan h = absurd (holds h)
negative_value (inf true) h = negative_inf
negative_value (inf false) h = absurd (holds h)
negative_value (fin true zero e) h = absurd (omega (arith, ltb→lt 0 (0 * up e * 1 + 0 * 1 * down e) (holds h), none e, zero-mul (down e)))
negative_value (fin true (suc m) e) h = negative_of m e
negative_value (fin false m e) h = absurd (omega (arith, ltb→lt (m * up e * 1) (0 * 1 * down e) (holds h), zero-mul (down e)))

-- neither: above zero, or NaN
pub data Rest : Float → Type 0 where
  rest-nan : Rest nan
  rest-inf : Rest (inf false)
  rest_of : (m : ℕ) (e : ℤ) → Rest (fin false (suc m) e)

level_zero : (s : Bool) {a b : ℕ} → a ≡ 0 → b ≡ 0 → T (level s a false b)
level_zero true p q = rw (p, q) tt
level_zero false p q = rw (p, q) tt

pub rest-value : (x : Float) → lt x plus_zero ≡ false → eq x plus_zero ≡ false → Rest x
unfolding lt eq of_bits
rest-value nan h k = rest-nan
rest-value (inf true) h k = absurd (fails h tt)
rest-value (inf false) h k = rest-inf
rest-value (fin s zero e) h k = absurd (fails k (level_zero s (none e) (zero-mul (down e))))
rest-value (fin true (suc m) e) h k = absurd (fails h (lt→ltb 0 (suc m * up e * 1 + 0 * 1 * down e) (omega (arith, above m e))))
rest-value (fin false (suc m) e) h k = rest_of m e

-- ---- the magnitude
pub abs-negative : {x : Float} → Negative x → neg x ≡ abs x
unfolding neg abs
abs-negative negative_inf = refl
abs-negative (negative_of m e) = refl

pub abs-zero : {x : Float} → Zero x → T (fits binary64 x) → plus_zero ≡ abs x
unfolding abs of_bits
abs-zero (zero_of s e) f = ap (λ (d : ℤ). fin false 0 d) (sym (zero_exp binary64 s e f))

pub abs-rest : {x : Float} → Rest x → x ≡ abs x
unfolding abs
abs-rest rest-nan = refl
abs-rest rest-inf = refl
abs-rest (rest_of m e) = refl

-- the code's magnitude: y is x, or +0.0 where x is a zero
module _ (x y : Float) (f : T (fits binary64 x)) (d : y ≡ cond (eq x plus_zero) plus_zero x) where
  pub abs-below : lt y plus_zero ≡ true → neg y ≡ abs x
  unfolding lt of_bits
  abs-below h = go (eq x plus_zero) refl
    where
      go : (b : Bool) → eq x plus_zero ≡ b → neg y ≡ abs x
      go true e = let z : y ≡ plus_zero = rw e at d in absurd (false≢true (rw z at h))
      go false e = let z : y ≡ x = rw e at d in rw z (abs-negative (negative_value x (rw z at h)))

  pub abs-other : lt y plus_zero ≡ false → y ≡ abs x
  abs-other h = go (eq x plus_zero) refl
    where
      go : (b : Bool) → eq x plus_zero ≡ b → y ≡ abs x
      go true e = let z : y ≡ plus_zero = rw e at d in z ∙ abs-zero (zero_value x e) f
      go false e = let z : y ≡ x = rw e at d in rw z (abs-rest (rest-value x (rw z at h) e))

-- ---- against itself
pub nan_test : (x : Float) → ne x x ≡ is_nan x
unfolding ne eq is_nan
nan_test nan = refl
nan_test (inf true) = refl
nan_test (inf false) = refl
nan_test (fin s m e) = ap not (both (eqb (m * up e * down e) (m * up e * down e)) (beq s s) (is_true _ (eqb_refl (m * up e * down e))) (beq_self s))
  where
    both : (a b : Bool) → a ≡ true → b ≡ true → a && (b || eqb (m * up e * down e) 0) ≡ true
    both a b p q = rw (p, q)

-- ---- the difference from itself: zero, or NaN
zero_round : (c : ℕ) → 0 < c → round binary64 false 0 c ≡ plus_zero
unfolding of_bits round
zero_round c h = sym (round_same binary64 false 0 1 0 c (omega arith) h (omega arith))

pub finite_difference : (x : Float) → le (sub binary64 x x) plus_zero ≡ finite x
unfolding lt le eq sub add neg sum of_bits
finite_difference nan = refl
finite_difference (inf true) = refl
finite_difference (inf false) = refl
finite_difference (fin s m e) = subst (λ (z : Float). le z plus_zero ≡ true) (sym (difference s)) refl
  where
    a : ℕ
    a = m * up e * down e

    c : 0 < down e * down e
    c = mul-pos (down_pos e) (down_pos e)

    not_less : ltb a a ≡ false
    not_less = go (ltb a a) refl
      where
        go : (b : Bool) → ltb a a ≡ b → ltb a a ≡ false
        go true p = absurd (omega (arith, ltb→lt a a (holds p)))
        go false p = p

    difference : (t : Bool) → sum binary64 t a (not t) a (down e * down e) ≡ plus_zero
    difference true = let z : a - a ≡ 0 = omega arith in rw (not_less, z) (zero_round (down e * down e) c)
    difference false = let z : a - a ≡ 0 = omega arith in rw (not_less, z) (zero_round (down e * down e) c)
