-- The tests of phase one come out alike along moved positions; and what the test after the search comes to at the last step.
use mathlib.Core.Path.{◌≡◌, refl, ap, ap₂, ◌∙◌}
use mathlib.Core.List.{List}
use mathlib.Core.Bool.{true, false, ◌||◌, or-false}
use Prim.Native.Nat.{ℕ, ◌+◌, ◌≤◌, ◌<◌}
use native.Mathlib.Omega.{arith}
use lib.Dec.{T}
use lib.Ieee.{Float, inf, binary64, lt, le, neg, fits}
use lib.Ieee.Scale.{finite}
use Rattle.arithmetic.specs.Double.{plus_zero, ◌⊖◌, ◌⊗◌, ◌⊘◌, square}
use Rattle.arithmetic.proofs.LoopLaws.{range_none}
use Rattle.arithmetic.proofs.OrderLaws.{none_above_infinity}
use Rattle.arithmetic.proofs.Folds.{smallest, greatest}
use Rattle.matrix.specs.Matrix.{at}
use Rattle.matrix.proofs.Bijection.{Bijection, Fixes, bijection_from, Along}
use Rattle.methods.specs.Se.{fold_next, tmp_of, aii_max, aii_min, leaves_before, leaves_after}
use Rattle.methods.specs.declared.schnabel_eskow.Tolerances.{Tolerances}
use Rattle.methods.specs.declared.schnabel_eskow.Variant.{Variant}
use Rattle.methods.specs.declared.schnabel_eskow.Variant.TheVariants.{Se90, Se99}
use Rattle.methods.proofs.Tests.{smallest-along, greatest_below, greatest_limit}
use Rattle.methods.proofs.Moved.{Moved}
use Rattle.methods.proofs.Eliminated.{moved_corner, moved_column}

-- after the pivot: 0 to j are fixed
tmp_along : (n j : ℕ) (σ τ : ℕ → ℕ) (A B : List Float) (x : Float) → j < n → Bijection 0 n σ τ → Fixes n (j + 1) σ → Moved n σ A B
    → ((x y : ℕ) → x < n → y < n → at n A x y ≡ at n A y x) → lt (tmp_of n j A) x ≡ lt (tmp_of n j B) x
unfolding tmp_of fold_next
tmp_along n j σ τ A B x pj P f M s = smallest-along (j + 1) n σ τ (next A) (next B) x (omega arith) (bijection_from n (j + 1) σ τ P f)
    (λ i p q. ap₂ ◌⊖◌ (M.moved i i q q) (ap₂ ◌⊘◌ (ap square (moved_column n j σ τ A B pj P f M s i q)) (moved_corner n j σ τ A B pj P f M s)))
  where
    next : List Float → ℕ → Float
    next l i = at n l i i ⊖ square (at n l i j) ⊘ at n l j j

pub leaves_after-along : (v : Variant) (t : Tolerances) (gamma : Float) (n j : ℕ) (σ τ : ℕ → ℕ) (A B : List Float) → j < n → Bijection 0 n σ τ → Fixes n (j + 1) σ → Moved n σ A B
    → ((x y : ℕ) → x < n → y < n → at n A x y ≡ at n A y x) → leaves_after v t gamma n j A ≡ leaves_after v t gamma n j B
unfolding leaves_after
leaves_after-along Se90 t gamma n j σ τ A B pj P f M s = rw (moved_corner n j σ τ A B pj P f M s, tmp_along n j σ τ A B (t.tau ⊗ gamma) pj P f M s)
leaves_after-along Se99 t gamma n j σ τ A B pj P f M s = tmp_along n j σ τ A B (neg t.mu ⊗ gamma) pj P f M s

-- ---- the last step: nothing is folded, and infinity is below nothing
nothing-folded : (n j : ℕ) (l : List Float) (x : Float) → n ≤ j + 1 → lt (tmp_of n j l) x ≡ false
unfolding tmp_of
nothing-folded n j l x h = ap (λ (y : Float). lt y x) (range_none (j + 1) n (fold_next n j l) (inf false) h) ∙ none_above_infinity x

-- SE99's test after the search stays in phase one
pub se99-stays_last : (t : Tolerances) (gamma : Float) (n j : ℕ) (l : List Float) → n ≤ j + 1 → leaves_after Se99 t gamma n j l ≡ false
unfolding leaves_after
se99-stays_last t gamma n j l h = nothing-folded n j l (neg t.mu ⊗ gamma) h

-- SE90 leaves it exactly where the pivot is at or below zero
pub se90-leaves_last : (t : Tolerances) (gamma : Float) (n j : ℕ) (l : List Float) → n ≤ j + 1 → leaves_after Se90 t gamma n j l ≡ le (at n l j j) plus_zero
unfolding leaves_after
se90-leaves_last t gamma n j l h = rw (nothing-folded n j l (t.tau ⊗ gamma) h) (or-false (le (at n l j j) plus_zero))

-- before the pivot: 0 to j - 1 are fixed
pub leaves_before-along : (v : Variant) (t : Tolerances) (gamma : Float) (n j : ℕ) (σ τ : ℕ → ℕ) (A B : List Float) → j < n → Bijection 0 n σ τ → Fixes n j σ → Moved n σ A B
    → ((x : ℕ) → x < n → finite (at n A x x) ≡ true) → ((x : ℕ) → x < n → T (fits binary64 (at n A x x)))
    → leaves_before v t gamma n j A ≡ leaves_before v t gamma n j B
unfolding leaves_before aii_max aii_min
leaves_before-along Se90 t gamma n j σ τ A B pj P f M fin' dbl = refl
leaves_before-along Se99 t gamma n j σ τ A B pj P f M fin' dbl =
    let Q = bijection_from n j σ τ P f in
    let along : Along j n σ (λ i. at n A i i) (λ i. at n B i i) = λ i p q. M.moved i i q q in
    ap₂ ◌||◌
    (greatest_below j n σ τ (λ i. at n A i i) (λ i. at n B i i) pj Q along (λ i p q. fin' i q) (λ i p q. dbl i q) (t.tau_bar ⊗ gamma))
    (smallest-along j n σ τ (λ i. at n A i i) (λ i. at n B i i) (neg t.mu ⊗ greatest j n (λ i. at n A i i)) (omega arith) Q along
    ∙ greatest_limit j n σ τ (λ i. at n A i i) (λ i. at n B i i) pj Q along (λ i p q. fin' i q) (λ i p q. dbl i q) (neg t.mu) (smallest j n (λ i. at n B i i)))
