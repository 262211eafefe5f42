-- A product of two finite doubles is a number, and has a sign where just one of them has.
use mathlib.Core.Path.{◌≡◌, refl, sym, ◌∙◌, subst}
use mathlib.Core.Bool.{true, false, true≢false, false≢true}
use Prim.Native.Nat.{ℕ, zero, suc, ◌*◌}
use native.Mathlib.Omega.{arith}
use lib.Dec.{eqb}
use lib.IntN.{ℤ}
use borrow.Author.Tests.{le-ltb, ne_eqb}
use lib.Ieee.{Float, nan, inf, fin, binary64, up, down, unlike, mul, neg, lt, is_nan, of_bits}
use lib.Ieee.Scale.{finite}
use Rattle.arithmetic.specs.AtLeast.{AtLeast}
use Rattle.arithmetic.specs.Double.{plus_zero, ◌⊗◌}
use Rattle.arithmetic.specs.Sign.{sign_of}
use Rattle.arithmetic.proofs.SignLaws.{not_negative, round-sign}
use Rattle.arithmetic.proofs.Maximum.{round_number}

pub product-number : (x y : Float) → finite x ≡ true → finite y ≡ true → is_nan (x ⊗ y) ≡ false
unfolding mul
product-number nan y p q = absurd (false≢true p)
product-number (inf s) y p q = absurd (false≢true p)
product-number (fin s m e) nan p q = absurd (false≢true q)
product-number (fin s m e) (inf t) p q = absurd (false≢true q)
product-number (fin s m e) (fin t n d) p q = round_number binary64 (unlike s t) (m * up e * (n * up d)) (down e * down d)

pub product-sign : (x y : Float) → finite x ≡ true → finite y ≡ true → sign_of (x ⊗ y) ≡ unlike (sign_of x) (sign_of y)
unfolding mul
product-sign nan y p q = absurd (false≢true p)
product-sign (inf s) y p q = absurd (false≢true p)
product-sign (fin s m e) nan p q = absurd (false≢true q)
product-sign (fin s m e) (inf t) p q = absurd (false≢true q)
product-sign (fin s m e) (fin t n d) p q = round-sign binary64 (unlike s t) (m * up e * (n * up d)) (down e * down d)

-- a value without a sign is not below one with it
pub lt-signs : (x y : Float) → sign_of x ≡ false → sign_of y ≡ true → lt x y ≡ false
unfolding lt
lt-signs nan y p q = refl
lt-signs (inf s) nan p q = refl
lt-signs (inf true) (inf t) p q = absurd (true≢false p)
lt-signs (inf false) (inf t) p q = refl
lt-signs (inf s) (fin t n d) p q = p
lt-signs (fin s m e) nan p q = refl
lt-signs (fin s m e) (inf true) p q = refl
lt-signs (fin s m e) (inf false) p q = absurd (false≢true q)
lt-signs (fin true m e) (fin t n d) p q = absurd (true≢false p)
lt-signs (fin false m e) (fin true n d) p q = refl
lt-signs (fin false m e) (fin false n d) p q = absurd (false≢true q)

-- ---- products with a finite number above zero
pub record Positive (x : Float) : Type 0 where
  pub is_finite : finite x ≡ true
  pub above_zero : lt plus_zero x ≡ true

pub record Unsigned (x : Float) : Type 0 where
  pub number : is_nan x ≡ false
  pub sign : sign_of x ≡ false

positive_form : (x : Float) → Positive x → (m : ℕ) × (e : ℤ) × (x ≡ fin false (suc m) e)
unfolding lt of_bits
positive_form nan P = absurd (false≢true P.is_finite)
positive_form (inf s) P = absurd (false≢true P.is_finite)
positive_form (fin true m e) P = absurd (false≢true P.above_zero)
positive_form (fin false zero e) P = absurd (false≢true (sym (le-ltb (0 * 1 * down e) (0 * up e * 1) (omega arith)) ∙ P.above_zero))
positive_form (fin false (suc m) e) P = (m, e, refl)

times-unsigned : (m : ℕ) (e : ℤ) (y : Float) → Unsigned y → AtLeast plus_zero (fin false (suc m) e ⊗ y)
unfolding mul lt is_nan of_bits
times-unsigned m e nan U = absurd (true≢false U.number)
times-unsigned m e (inf true) U = absurd (true≢false U.sign)
times-unsigned m e (inf false) U = let some : eqb (suc m) 0 ≡ false = ne_eqb (suc m) 0 (λ z. omega arith) in rw some (record { number = refl; not_less = refl })
times-unsigned m e (fin true k d) U = absurd (true≢false U.sign)
times-unsigned m e (fin false k d) U =
    let x = fin false (suc m) e in
    let y = fin false k d in
    record { number = product-number x y refl refl; not_less = not_negative (x ⊗ y) (product-sign x y refl refl) }

pub positive_times : (x y : Float) → Positive x → Unsigned y → AtLeast plus_zero (x ⊗ y)
positive_times x y P U = let f = positive_form x P in subst (λ (z : Float). AtLeast plus_zero (z ⊗ y)) (sym f.2) (times-unsigned f.0 f.1 y U)

-- a value without a sign is not below -x times itself
pub above-negative : (x : Float) → Positive x → (m : ℕ) (e : ℤ) → lt (fin false m e) (neg x ⊗ fin false m e) ≡ false
unfolding neg
above-negative x P m e =
    let f = positive_form x P in
    let y = fin false m e in
    subst (λ (z : Float). lt y (neg z ⊗ y) ≡ false) (sym f.2) (lt-signs y (fin true (suc f.0) f.1 ⊗ y) refl (product-sign (fin true (suc f.0) f.1) y refl refl))
