-- Tests and folds over a range of positions come out alike along a bijection.
use mathlib.Core.Path.{◌≡◌, sym, ◌∙◌, subst}
use mathlib.Core.Bool.{Bool, true, false}
use Prim.Native.Nat.{ℕ, ◌≤◌, ◌<◌}
use native.Mathlib.Omega.{arith}
use lib.Dec.{T}
use lib.Ieee.{Float, binary64, lt, eq, mul, is_nan, fits}
use lib.Ieee.Scale.{finite}
use Rattle.arithmetic.specs.All.{all}
use Rattle.arithmetic.proofs.AllLaws.{all-each, all_true}
use Rattle.arithmetic.proofs.OrderLaws.{lt-total, finite_number}
use Rattle.arithmetic.proofs.Cases.{same_tests}
use Rattle.arithmetic.proofs.Equals.{lt-left, limit_along}
use Rattle.arithmetic.proofs.Folds.{smallest, least, greatest, most, most-is, Finites, Doubles}
use Rattle.matrix.proofs.Bijection.{Bijection, inverse, Along, along_inverse}

-- ---- a test of each position
pub all_same : (a b : ℕ) (f g : ℕ → Bool) → a ≤ b → ((i : ℕ) → a ≤ i → i < b → f i ≡ g i) → all a b f ≡ all a b g
all_same a b f g h e = same_tests (all a b f) (all a b g)
    (λ t. all_true a b g h (λ i p q. sym (e i p q) ∙ all-each a b f h t i p q))
    (λ t. all_true a b f h (λ i p q. e i p q ∙ all-each a b g h t i p q))

pub all-along : (a b : ℕ) (σ τ : ℕ → ℕ) (f g : ℕ → Bool) → a ≤ b → Bijection a b σ τ → Along a b σ f g → all a b f ≡ all a b g
all-along a b σ τ f g h B A = same_tests (all a b f) (all a b g)
    (λ e. all_true a b g h (λ i p q. A i p q ∙ all-each a b f h e (σ i) (B.to_low i p q) (B.to_high i p q)))
    (λ e. all_true a b f h (λ i p q. along_inverse f g B A i p q ∙ all-each a b g h e (τ i) (B.from_low i p q) (B.from-high i p q)))

pub smallest-along : (a b : ℕ) (σ τ : ℕ → ℕ) (f g : ℕ → Float) (x : Float) → a ≤ b → Bijection a b σ τ → Along a b σ f g → lt (smallest a b f) x ≡ lt (smallest a b g) x
smallest-along a b σ τ f g x h B A = same_tests (lt (smallest a b f) x) (lt (smallest a b g) x)
    (λ e. let r = (least f x a b h).some e in
    (least g x a b h).each (τ r.0) (B.from_low r.0 r.1 r.2) (B.from-high r.0 r.1 r.2)
    (subst (λ (y : Float). lt y x ≡ true) (along_inverse f g B A r.0 r.1 r.2) r.3))
    (λ e. let r = (least g x a b h).some e in
    (least f x a b h).each (σ r.0) (B.to_low r.0 r.1 r.2) (B.to_high r.0 r.1 r.2)
    (subst (λ (y : Float). lt y x ≡ true) (A r.0 r.1 r.2) r.3))

not_below : (a b : ℕ) (σ τ : ℕ → ℕ) (f g : ℕ → Float) → a < b → Bijection a b σ τ → Along a b σ f g → Finites g a b → lt (greatest a b f) (greatest a b g) ≡ false
not_below a b σ τ f g h B A fg =
    let r = most-is g a b h fg in
    rw (r.3, A r.0 r.1 r.2) ((most f a b (omega arith)).each (σ r.0) (B.to_low r.0 r.1 r.2) (B.to_high r.0 r.1 r.2))

-- two loadings may find zeros of another sign
module _ (a b : ℕ) (σ τ : ℕ → ℕ) (f g : ℕ → Float) (h : a < b) (B : Bijection a b σ τ) (A : Along a b σ f g) (ff : Finites f a b) (df : Doubles f a b) where
  fg : Finites g a b
  fg i p q = subst (λ (v : Float). finite v ≡ true) (sym (A i p q)) (ff (σ i) (B.to_low i p q) (B.to_high i p q))

  dg : Doubles g a b
  dg i p q = subst (λ (v : Float). T (fits binary64 v)) (sym (A i p q)) (df (σ i) (B.to_low i p q) (B.to_high i p q))

  pub greatest_number : is_nan (greatest a b f) ≡ false
  greatest_number = let r = most-is f a b h ff in rw r.3 (finite_number (f r.0) (ff r.0 r.1 r.2))

  number-g : is_nan (greatest a b g) ≡ false
  number-g = let r = most-is g a b h fg in rw r.3 (finite_number (g r.0) (fg r.0 r.1 r.2))

  double-f : T (fits binary64 (greatest a b f))
  double-f = let r = most-is f a b h ff in rw r.3 (df r.0 r.1 r.2)

  double-g : T (fits binary64 (greatest a b g))
  double-g = let r = most-is g a b h fg in rw r.3 (dg r.0 r.1 r.2)

  greatest_equal : eq (greatest a b f) (greatest a b g) ≡ true
  greatest_equal = lt-total (greatest a b f) (greatest a b g) greatest_number number-g
      (not_below a b σ τ f g h B A fg)
      (not_below a b τ σ g f h (inverse B) (along_inverse f g B A) ff)

  -- no comparison sees it
  pub greatest_below : (x : Float) → lt (greatest a b f) x ≡ lt (greatest a b g) x
  greatest_below x = lt-left (greatest a b f) (greatest a b g) x greatest_number number-g greatest_equal

  pub greatest_limit : (c z : Float) → lt z (mul binary64 c (greatest a b f)) ≡ lt z (mul binary64 c (greatest a b g))
  greatest_limit c z = limit_along c (greatest a b f) (greatest a b g) z double-f double-g greatest_equal
