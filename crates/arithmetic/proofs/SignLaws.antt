-- Signs: of magnitudes, of rounded values, of sums of values that are not negative.
use mathlib.Core.Path.{◌≡◌, refl, ap, ◌∙◌}
use mathlib.Core.Bool.{Bool, true, false, cond, true≢false}
use Prim.Native.Nat.{ℕ, zero, suc, ◌+◌, ◌*◌, ◌^◌}
use native.Mathlib.Omega.{arith}
use lib.Dec.{T, ltb}
use borrow.Author.Tests.{le-ltb}
use lib.Ieee.{Float, nan, inf, fin, Format, binary64, low, emax, prec, up, down, odd, units, round, sum, add, lt, is_nan, fits, of_bits}
use lib.Ieee.Fits.{round_is}
use Rattle.arithmetic.specs.Double.{plus_zero, ◌⊕◌, abs}
use Rattle.arithmetic.specs.Sign.{sign_of}

-- ---- magnitudes
pub abs-sign : (x : Float) → sign_of (abs x) ≡ false
unfolding abs
abs-sign nan = refl
abs-sign (inf s) = refl
abs-sign (fin s m e) = refl

pub abs-number : (x : Float) → is_nan x ≡ false → is_nan (abs x) ≡ false
unfolding abs is_nan
abs-number nan h = h
abs-number (inf s) h = refl
abs-number (fin s m e) h = refl

pub abs-fits : (x : Float) → T (fits binary64 x) → T (fits binary64 (abs x))
unfolding abs fits
abs-fits nan h = tt
abs-fits (inf s) h = tt
abs-fits (fin s zero e) h = h
abs-fits (fin s (suc m) e) h = h

-- ---- no sign: not below zero
pub not_negative : (x : Float) → sign_of x ≡ false → lt x plus_zero ≡ false
unfolding lt of_bits
not_negative nan h = refl
not_negative (inf true) h = absurd (true≢false h)
not_negative (inf false) h = refl
not_negative (fin true m e) h = absurd (true≢false h)
not_negative (fin false m e) h = le-ltb (m * up e * 1) (0 * 1 * down e) (omega arith)

pub plus_zero-sign : sign_of plus_zero ≡ false
unfolding of_bits
plus_zero-sign = refl

-- ---- rounding keeps the sign
odd_sign : (d : ℕ) (s : Bool) (q k l : ℕ) → sign_of (odd d s q k l) ≡ s
unfolding odd
odd_sign d s zero k l = refl
odd_sign d s (suc q) k l = refl

units_sign : (f : Format) (s : Bool) (q k : ℕ) → sign_of (units f s q k) ≡ s
unfolding units
units_sign f s q k = pick (ltb (q * 2 ^ k) (2 ^ (low f + suc (emax f))))
  where
    pick : (b : Bool) → sign_of (cond b (odd (suc (prec f)) s q k (low f)) (inf s)) ≡ s
    pick true = odd_sign (suc (prec f)) s q k (low f)
    pick false = refl

pub round-sign : (f : Format) (s : Bool) (num den : ℕ) → sign_of (round f s num den) ≡ s
round-sign f s num den = ap sign_of (round_is f s num den) ∙ units_sign f s _ _

-- ---- a sum of two values without a sign has none
pub add-sign : (x y : Float) → sign_of x ≡ false → sign_of y ≡ false → sign_of (x ⊕ y) ≡ false
unfolding add sum
add-sign nan y p q = refl
add-sign (inf s) nan p q = refl
add-sign (inf true) (inf t) p q = absurd (true≢false p)
add-sign (inf false) (inf true) p q = absurd (true≢false q)
add-sign (inf false) (inf false) p q = refl
add-sign (inf s) (fin t n d) p q = p
add-sign (fin s m e) nan p q = refl
add-sign (fin s m e) (inf t) p q = q
add-sign (fin true m e) (fin t n d) p q = absurd (true≢false p)
add-sign (fin false m e) (fin true n d) p q = absurd (true≢false q)
add-sign (fin false m e) (fin false n d) p q = round-sign binary64 false (m * up e * down d + n * up d * down e) (down e * down d)
