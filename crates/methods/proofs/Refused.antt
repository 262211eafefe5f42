-- A run that no step refused.
use mathlib.Core.Path.{◌≡◌, refl, ap}
use mathlib.Core.Bool.{Bool, true, false, not, true≢false}
use Prim.Native.Nat.{ℕ}
use Rattle.methods.specs.Marks.{mark, marked, Mark}
use Rattle.std.specs.Prelude.{None, Some}

pub unmarked_never : (m : Mark) → marked m ≡ false → m ≡ None
unmarked_never None e = refl
unmarked_never (Some k) e = absurd (true≢false e)

-- a run goes on where it was not refused before and its test holds
pub record NotRefused (m : Mark) (ok : Bool) : Type 0 where
  pub before : m ≡ None
  pub test : ok ≡ true

pub goes_on : (m : Mark) (ok : Bool) (j : ℕ) → mark m (not ok) j ≡ None → NotRefused m ok
goes_on None true j e = record { before = refl; test = refl }
goes_on None false j e = absurd (true≢false (ap marked e))
goes_on (Some k) ok j e = absurd (true≢false (ap marked e))
