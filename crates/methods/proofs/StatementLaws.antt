-- What a pivot leaves in a matrix and in a list, each value named.
use mathlib.Core.Path.{◌≡◌, sym, ap, ◌∙◌}
use mathlib.Core.List.{List}
use Prim.Native.Nat.{ℕ, ◌+◌}
use borrow.Author.Tests.{eq-eqb, ne_eqb}
use lib.Ieee.{Float, nan}
use Rattle.matrix.specs.Swap.{swap, swap_rows, swap_columns}
use Rattle.methods.specs.Statements.{pivot_matrix, pivot_list}

-- ---- pivots
swapped : (n j k : ℕ) (m : List Float) → (k ≡ 0 → ⊥) → pivot_matrix n j k m ≡ swap_columns nan n (swap_rows nan n m j (j + k)) j (j + k)
unfolding pivot_matrix
swapped n j k m h = rw (ne_eqb k 0 h)

pub matrix-pivoted : (n j k : ℕ) (m m₁ m₂ : List Float) → (k ≡ 0 → ⊥) → m₁ ≡ swap_rows nan n m j (j + k) → m₂ ≡ swap_columns nan n m₁ j (j + k) → m₂ ≡ pivot_matrix n j k m
matrix-pivoted n j k m m₁ m₂ h e g = g ∙ ap (λ (l : List Float). swap_columns nan n l j (j + k)) e ∙ sym (swapped n j k m h)

pub matrix-kept : (n j k : ℕ) (m : List Float) → k ≡ 0 → m ≡ pivot_matrix n j k m
unfolding pivot_matrix
matrix-kept n j k m h = rw (eq-eqb k 0 h)

module _ {A : Type 0} (d : A) (j k : ℕ) where
  pub list_pivoted : (l l' : List A) → (k ≡ 0 → ⊥) → l' ≡ swap d l j (j + k) → l' ≡ pivot_list d j k l
  unfolding pivot_list
  list_pivoted l l' h e = rw (ne_eqb k 0 h, e)

  pub list_kept : (l : List A) → k ≡ 0 → l ≡ pivot_list d j k l
  unfolding pivot_list
  list_kept l h = rw (eq-eqb k 0 h)
