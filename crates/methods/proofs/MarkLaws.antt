-- The first mark stays.
use mathlib.Core.Path.{◌≡◌, refl, sym}
use mathlib.Core.Bool.{Bool, true}
use Prim.Native.Nat.{ℕ}
use native.Mathlib.Omega.{arith}
use Rattle.methods.specs.Marks.{mark, marked, Mark}
use Rattle.std.specs.Option.{is_some}
use Rattle.std.specs.Prelude.{None, Some}

-- the code asks by `is_some`
pub marked-is : (m : Mark) {b : Bool} → b ≡ is_some m → marked m ≡ b
marked-is None h = sym h
marked-is (Some j) h = sym h

pub mark-keeps : (m : Mark) (b : Bool) (j t : ℕ) → m ≡ Some t → mark m b j ≡ Some t
mark-keeps m b j t e = rw e

-- a step that is marked
pub mark-some : (m : Mark) (j : ℕ) → (t : ℕ) × (mark m true j ≡ Some t)
mark-some None j = (j, refl)
mark-some (Some k) j = (k, refl)

-- no mark is both
pub clash : {A : Type 0} (m : Mark) (t : ℕ) → m ≡ None → m ≡ Some t → A
clash m t p q = absurd (let z : ◌≡◌ {A = ℕ} 0 1 = cc in omega arith)
