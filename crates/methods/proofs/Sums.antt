-- Sums of magnitudes in code: along a row the stride is 1, along a column n.
use mathlib.Core.Path.{◌≡◌, ◌∙◌}
use mathlib.Core.List.{List}
use Prim.Native.Nat.{ℕ, ◌+◌, ◌*◌, ◌≤◌, ◌<◌}
use native.Mathlib.Nat.{mul-one}
use native.Mathlib.Omega.{arith}
use borrow.Author.Rules.{rules}
use lib.ListN.{length, get_or}
use lib.Ieee.{Float, nan}
use Rattle.matrix.specs.Matrix.{Square}
use Rattle.matrix.proofs.CellLaws.{cell_lt}
use Rattle.methods.specs.Se.{magnitude_sum, row_sum, column_sum}

row_at : (n i t : ℕ) → t * 1 + (i * n + 0) ≡ i * n + t
row_at n i t = simp mul-one (omega arith)

column-at : (n i t : ℕ) → t * n + (0 * n + i) ≡ t * n + i
column-at n i t = omega arith

module _ (n i a b start : ℕ) (l : List Float) where
  pub row_inside : start ≡ i * n + 0 → Square n l → i < n → b ≤ n → (t : ℕ) → a ≤ t → t < b → t * 1 + start < length l
  row_inside e s p q t u v = rw (e, row_at n i t, s.len) (cell_lt n i t p (omega arith))

  pub column-inside : start ≡ 0 * n + i → Square n l → i < n → b ≤ n → (t : ℕ) → a ≤ t → t < b → t * n + start < length l
  column-inside e s p q t u v = rw (e, column-at n i t, s.len) (cell_lt n t i (omega arith) p)

  pub row_summed : (r : Float) → r ≡ magnitude_sum (λ t. get_or l (t * 1 + start) nan) a b → start ≡ i * n + 0 → r ≡ row_sum n l i a b
  unfolding row_sum
  row_summed r h e = h ∙ rw e (simp row_at)

  pub column-summed : (r : Float) → r ≡ magnitude_sum (λ t. get_or l (t * n + start) nan) a b → start ≡ 0 * n + i → r ≡ column_sum n l i a b
  unfolding column_sum
  column-summed r h e = h ∙ rw e (simp column-at)

-- for `search`, at calls that sum
pub ruleset sums = (rules, row_inside, column-inside, row_summed, column-summed)
