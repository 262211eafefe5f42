-- By the value of a test.
use mathlib.Core.Path.{◌≡◌, refl, sym, ◌∙◌}
use mathlib.Core.Bool.{Bool, true, false, ◌||◌, false≢true}

-- .. with the equation
pub data Is (b : Bool) : Type 0 where
  holds : b ≡ true → Is b
  fails : b ≡ false → Is b

pub is : (b : Bool) → Is b
is true = holds refl
is false = fails refl

pub same_tests : (a b : Bool) → (a ≡ true → b ≡ true) → (b ≡ true → a ≡ true) → a ≡ b
same_tests true b f g = sym (f refl)
same_tests false true f g = g refl
same_tests false false f g = refl

pub not_holds : (b : Bool) → (b ≡ true → ⊥) → b ≡ false
not_holds true h = absurd (h refl)
not_holds false h = refl

pub or_left : (a b : Bool) → b ≡ false → a || b ≡ true → a ≡ true
or_left true b e f = refl
or_left false b e f = absurd (false≢true (sym e ∙ f))
