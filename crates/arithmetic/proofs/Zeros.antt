-- +0.0 plus a zero is +0.0, and a product with a zero is a zero where the other factor is finite.
use mathlib.Core.Path.{◌≡◌, refl, ap}
use mathlib.Core.Bool.{Bool, true, false, false≢true}
use Prim.Native.Nat.{zero, suc}
use lib.Dec.{T}
use lib.IntN.{pos}
use lib.Ieee.{Float, nan, inf, fin, binary64, add, sum, round, fits, of_bits}
use lib.Ieee.Fits.{mul-fits}
use lib.Ieee.Scale.{finite}
use Rattle.arithmetic.specs.Double.{plus_zero, ◌⊕◌, ◌⊗◌}
use Rattle.arithmetic.proofs.SameDoubles.{mul_commutes, zero_exp}
use Rattle.arithmetic.proofs.Equals.{is_zero, mul-zeros}

-- +0.0 or -0.0
pub record Zero (x : Float) : Type 0 where
  pub sign : Bool
  pub is : x ≡ fin sign 0 (pos 0)

-- a double that is a zero
zero_double : (x : Float) → is_zero x ≡ true → T (fits binary64 x) → Zero x
zero_double nan h f = absurd (false≢true h)
zero_double (inf s) h f = absurd (false≢true h)
zero_double (fin s zero e) h f = record { sign = s; is = ap (fin s 0) (zero_exp binary64 s e f) }
zero_double (fin s (suc m) e) h f = absurd (false≢true h)

plus_zero-zero : is_zero plus_zero ≡ true
unfolding of_bits
plus_zero-zero = refl

pub times_zero : (x : Float) → finite x ≡ true → Zero (x ⊗ plus_zero)
times_zero nan h = absurd (false≢true h)
times_zero (inf s) h = absurd (false≢true h)
times_zero (fin s m e) h = zero_double (fin s m e ⊗ plus_zero) (mul-zeros s m e plus_zero plus_zero-zero) (mul-fits binary64 (fin s m e) plus_zero)

pub zero_times : (x : Float) → finite x ≡ true → Zero (plus_zero ⊗ x)
zero_times x h = rw (mul_commutes binary64 plus_zero x) (times_zero x h)

plus_zero-plus : (s : Bool) → plus_zero ⊕ fin s 0 (pos 0) ≡ plus_zero
unfolding of_bits add sum round
plus_zero-plus true = refl
plus_zero-plus false = refl

pub add-zero : (x : Float) → Zero x → plus_zero ⊕ x ≡ plus_zero
add-zero x Z = rw Z.is (plus_zero-plus Z.sign)
