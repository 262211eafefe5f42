-- The root is correctly rounded: `sqrt-nearest`. And what later proofs ask of it: it is a double, and a negative number has none.
use mathlib.Core.Path.{◌≡◌, refl, sym, ap, ◌∙◌, subst}
use mathlib.Core.Bool.{Bool, true, false, cond, false≢true}
use mathlib.Core.Logic.{inl, inr, ◌⊎◌}
use Prim.Native.Nat.{ℕ, zero, suc, ◌+◌, ◌-◌, ◌*◌, ◌/◌, ◌%◌, ◌^◌, ◌<◌}
use native.Mathlib.Omega.{arith}
use native.Mathlib.Nat.{eq-or-lt_of_le, mul-pos, zero-mul, zero-div, zero-lt-suc}
use lib.IntN.{ℤ}
use lib.Dec.{T, ltb, lt→ltb}
use lib.Pow.{pow_pos}
use lib.Ieee.{Float, nan, inf, fin, binary64, fits, units, to_bits, of_bits, lt, up, down, size, hid, top, prec}
use lib.Ieee.Nearest.{closest}
use lib.Ieee.Exact.{HasValue}
use lib.Ieee.Fits.{round-fits, nan-fits, inf-fits, up_pos}
use lib.Ieee.Bits.{is_true, of_bits-to_bits}
use lib.Ieee.Positive.{positive, positive_of_value}
use borrow.Author.Tests.{le-ltb}
use Rattle.arithmetic.specs.Double.{plus_zero}
use Rattle.arithmetic.specs.Sign.{sign_of}
use Rattle.arithmetic.specs.Sqrt.{magnitude_of, magnitude, nearest_to, root_of, sqrt, isqrt}
use Rattle.arithmetic.specs.InfinitelyPrecise.{HandedOn}
use Rattle.arithmetic.specs.Nearest.{Nearer, NotNegative, NearestRoot}
use Rattle.arithmetic.proofs.Operand.{Zero, zero_of, negative_value, fails}
use Rattle.arithmetic.proofs.WholeRoot.{square-lt}
use Rattle.arithmetic.proofs.Rounding.{nearest-is}
use Rattle.arithmetic.proofs.Written.{even_digit, cut_digit}
use Rattle.arithmetic.proofs.Packing.{units_value, magnitude-is}
use Rattle.arithmetic.proofs.Fields.{held}
use Rattle.arithmetic.proofs.Stages.{whole-root, scale_small, odd_cut, negative_root, zero_root}
use Rattle.arithmetic.proofs.Distance.{nearer, twice_square, which}

-- ---- the result, from what the second stage hands on: half of the whole root, rounded up, since no tie occurs
half_up : (r : ℕ) (cut : Bool) → (r % 2 ≡ 1 → cut ≡ true) → closest (2 * r + cond cut 1 0) 4 ≡ (r + 1) / 2
half_up r cut odd = go (r % 2) refl
  where
    go : (b : ℕ) → r % 2 ≡ b → closest (2 * r + cond cut 1 0) 4 ≡ (r + 1) / 2
    go zero z = even_digit r cut z ∙ omega arith
    go (suc zero) z = cut_digit r cut (odd z) ∙ omega arith
    go (suc (suc b)) z = omega arith

value_magnitude : (v : Float) (a : ℕ) → HasValue v false a (2 ^ 1074) → magnitude v ≡ a
unfolding magnitude
value_magnitude nan a h = absurd h
value_magnitude (inf s) a h = absurd h
value_magnitude (fin s m e) a h = magnitude-is m e a h.1

module _ (x : Float) (f : T (fits binary64 x)) (p : T (positive x)) where
  pub handed : HandedOn x
  handed = whole-root x f p

  abbrev r : ℕ
  r = handed.whole

  abbrev scale : ℕ
  scale = handed.scale

  odd : r % 2 ≡ 1 → r * 2 ^ scale * (r * 2 ^ scale) < magnitude x * 2 ^ 1074
  odd = odd_cut x f p r handed.cut scale handed.is

  result_is : sqrt x ≡ units binary64 false ((r + 1) / 2) (suc scale)
  result_is =
      handed.rounded
      ∙ nearest-is r handed.cut scale handed.is.least handed.is.most
      ∙ ap (λ (n : ℕ). units binary64 false n (suc scale)) (half_up r handed.cut (λ o. handed.is.flag ∙ is_true _ (lt→ltb _ _ (odd o))))

  result_value : HasValue (units binary64 false ((r + 1) / 2) (suc scale)) false ((r + 1) / 2 * 2 ^ suc scale) (2 ^ 1074)
  result_value = units_value ((r + 1) / 2) (suc scale) (omega (arith, handed.is.most)) (omega (arith, scale_small x f p r handed.cut scale handed.is))

  pub result-magnitude : magnitude (sqrt x) ≡ (r + 1) / 2 * 2 ^ suc scale
  result-magnitude = ap magnitude result_is ∙ value_magnitude _ _ result_value

  root-positive : T (positive (sqrt x))
  root-positive = subst (λ (v : Float). T (positive v)) (sym result_is) (positive_of_value (units binary64 false ((r + 1) / 2) (suc scale)) ((r + 1) / 2 * 2 ^ suc scale) (2 ^ 1074) result_value (mul-pos {m = (r + 1) / 2} (omega (arith, handed.is.least)) (pow_pos (suc scale))))

  nearest-of_all : (c j : ℕ) → c < 2 ^ 53 → Nearer (magnitude x * 2 ^ 1074) (magnitude (sqrt x)) (c * 2 ^ j)
  nearest-of_all c j small =
      let R = handed.is in
      rw result-magnitude (nearer _ r scale R.under R.over odd R.least R.most c j small)

-- ---- finite doubles that are not negative: zeros and positive ones
pub kind : (x : Float) → NotNegative x → Zero x ⊎ T (positive x)
unfolding lt of_bits
kind nan h = absurd (false≢true h.number)
kind (inf s) h = absurd (false≢true h.number)
kind (fin s zero e) h = inl (zero_of s e)
kind (fin false (suc m) e) h = inr (lt→ltb 0 (suc m) (zero-lt-suc m))
kind (fin true (suc m) e) h = absurd (fails h.sign (lt→ltb 0 (suc m * up e * 1 + 0 * 1 * down e) (omega (arith, mul-pos (mul-pos (zero-lt-suc m) (up_pos e)) (zero-lt-suc 0)))))

pub zero_magnitude : {x : Float} → Zero x → magnitude x ≡ 0
unfolding magnitude magnitude_of
zero_magnitude (zero_of s e) = rw (zero-mul (up e)) (zero-div (down e))

pub unsigned_not_below : (m : ℕ) (e : ℤ) → lt (fin false m e) plus_zero ≡ false
unfolding lt of_bits
unsigned_not_below m e = le-ltb (m * up e * 1) (0 * 1 * down e) (omega (arith, zero-mul (down e)))

positive_not_negative : (x : Float) → T (fits binary64 x) → T (positive x) → NotNegative x
positive_not_negative nan f p = absurd p
positive_not_negative (inf s) f p = absurd p
positive_not_negative (fin true m e) f p = absurd p
positive_not_negative (fin false m e) f p = record { double = f; number = refl; sign = unsigned_not_below m e }

-- the magnitude in the one way of writing it
pub held_by : (y : Float) → NotNegative y → (c : ℕ) × (j : ℕ) × (c < 2 ^ 53) × (c * 2 ^ j ≡ magnitude y)
held_by y h = elim (kind y h) [
  | inl z ↦ (0, 0, omega arith, sym (zero_magnitude z))
  | inr q ↦ let k = held y h.double q in (k.significand, k.exponent, k.value.digits, k.value.is)
]

-- a double's bits are its sign and its magnitude
pattern : Bool → ℕ → ℕ
pattern s n = cond s (top binary64) 0 + (size n - prec binary64) * hid binary64 + n / 2 ^ (size n - prec binary64)

pattern_is : (s : Bool) (m : ℕ) (e : ℤ) → to_bits binary64 (fin s m e) ≡ pattern s (magnitude_of m e)
unfolding to_bits magnitude_of pattern
pattern_is s m e = refl

pub same-magnitude : (v y : Float) → NotNegative v → NotNegative y → sign_of y ≡ sign_of v → magnitude v ≡ magnitude y → v ≡ y
unfolding magnitude
same-magnitude nan y hv hy s h = absurd (false≢true hv.number)
same-magnitude (inf b) y hv hy s h = absurd (false≢true hv.number)
same-magnitude (fin b m e) nan hv hy s h = absurd (false≢true hy.number)
same-magnitude (fin b m e) (inf c) hv hy s h = absurd (false≢true hy.number)
same-magnitude (fin b m e) (fin c n d) hv hy s h =
    sym (of_bits-to_bits binary64 (fin b m e) hv.double)
    ∙ ap (of_bits binary64) (pattern_is b m e ∙ (λ i. pattern (sym s i) (h i)) ∙ sym (pattern_is c n d))
    ∙ of_bits-to_bits binary64 (fin c n d) hy.double

-- what is nearer to the root than the root itself is the root
pub apart : (n v y : ℕ) → Nearer n v y → y * y ≡ n → v ≡ y
apart n v y h e = elim (which v y) [
  | inl l ↦ absurd (omega (arith, h.below l, square-lt {a = v + y} {b = 2 * y} (omega arith), twice_square y))
  | inr g ↦ elim (eq-or-lt_of_le g) [
    | inl z ↦ sym z
    | inr l ↦ absurd (omega (arith, h.above l, square-lt {a = 2 * y} {b = v + y} (omega arith), twice_square y))
  ]
]

-- ---- what comes out is a double
nearest_to-fits : (r : ℕ) (cut : Bool) (scale : ℕ) → T (fits binary64 (nearest_to r cut scale))
unfolding nearest_to
nearest_to-fits r cut scale = round-fits binary64 false ((2 * r + cond cut 1 0) * 2 ^ scale) (2 ^ 1075)

root_of-fits : (n : ℕ) → T (fits binary64 (root_of n))
unfolding root_of
root_of-fits n = let r : ℕ = isqrt (n * 2 ^ 1074) in nearest_to-fits r (ltb (r * r) (n * 2 ^ 1074)) 0

pub sqrt-fits : (x : Float) → T (fits binary64 x) → T (fits binary64 (sqrt x))
unfolding sqrt
sqrt-fits nan f = nan-fits binary64
sqrt-fits (inf true) f = nan-fits binary64
sqrt-fits (inf false) f = inf-fits binary64 false
sqrt-fits (fin s zero e) f = f
sqrt-fits (fin true (suc m) e) f = nan-fits binary64
sqrt-fits (fin false (suc m) e) f = root_of-fits (magnitude_of (suc m) e)

-- a negative number's root is a value that is not finite
pub sqrt_negative : (x : Float) → lt x plus_zero ≡ true → sqrt x ≡ nan
sqrt_negative x h = sym (negative_root (negative_value x h))

-- ---- the theorem
zero_nearest : (x : Float) → Zero x → (y : ℕ) → Nearer (magnitude x * 2 ^ 1074) (magnitude (sqrt x)) y
zero_nearest x z y =
    let r : magnitude (sqrt x) ≡ 0 = ap magnitude (sym (zero_root z)) ∙ zero_magnitude z in
    rw (r, zero_magnitude z) (record { below = λ h. omega (arith, mul-pos h h); above = λ h. absurd (omega arith) })

pub sqrt-nearest : (x : Float) → NotNegative x → NearestRoot x (sqrt x)
sqrt-nearest x h = record { result = result; nearest = nearest; exact = exact }
  where
    result : NotNegative (sqrt x)
    result = elim (kind x h) [
      | inl z ↦ subst NotNegative (zero_root z) h
      | inr p ↦ positive_not_negative (sqrt x) (sqrt-fits x h.double) (root-positive x h.double p)
    ]

    nearest : (y : Float) → NotNegative y → Nearer (magnitude x * 2 ^ 1074) (magnitude (sqrt x)) (magnitude y)
    nearest y g = elim (kind x h) [
      | inl z ↦ zero_nearest x z (magnitude y)
      | inr p ↦
          let k = held_by y g in
          subst (λ (n : ℕ). Nearer (magnitude x * 2 ^ 1074) (magnitude (sqrt x)) n) k.3 (nearest-of_all x h.double p k.0 k.1 k.2)
    ]

    exact : (y : Float) → NotNegative y → sign_of y ≡ sign_of (sqrt x) → magnitude y * magnitude y ≡ magnitude x * 2 ^ 1074 → sqrt x ≡ y
    exact y g s e = same-magnitude (sqrt x) y result g s (apart _ _ _ (nearest y g) e)
