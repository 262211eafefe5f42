-- Swaps of elements, one after the other, on bytes and on the elements that they are.
use mathlib.Core.Path.{◌≡◌, sym, ap, ◌∙◌}
use mathlib.Core.List.{List, []}
use Prim.Native.Nat.{ℕ, ◌+◌, ◌*◌, ◌<◌}
use native.Mathlib.Omega.{arith}
use lib.ListN.{length}
use Rattle.arithmetic.specs.Loop.{range}
use Rattle.arithmetic.proofs.LoopLaws.{range2_ind}
use Rattle.matrix.specs.Swap.{swap, swap_in_rows, swap_in_columns, swap_rows, swap_columns}
use Rattle.matrix.proofs.CellLaws.{cell_lt}
use Rattle.matrix.proofs.SwapLaws.{length-swap, swap-each}
use Rattle.encoding.specs.Elements.{elements, joined}
use Rattle.encoding.proofs.Elements.{Eights, length-elements, elements-eights, elements-joined, joined-elements}
use Rattle.byte_helpers.specs.Helpers.{swap_rows_bytes, swap_columns_bytes}

-- what holds of bytes and of elements at each turn
record Same (m : ℕ) (b : List ℕ) (es : List (List ℕ)) : Type 0 where
  is : b ≡ joined es
  eights : Eights es
  count : length es ≡ m

swap-same : (m x y : ℕ) (b : List ℕ) (es : List (List ℕ)) → x < m → y < m → Same m b es → Same m (joined (swap [] (elements b) x y)) (swap [] es x y)
swap-same m x y b es px py S =
    let e : elements b ≡ es = ap elements S.is ∙ elements-joined es S.eights in
    record {
      is = ap (λ (xs : List (List ℕ)). joined (swap [] xs x y)) e;
      eights = swap-each [] (λ v. length v ≡ 8) es x y (omega (arith, S.count)) (omega (arith, S.count)) S.eights;
      count = length-swap [] es x y ∙ S.count;
    }

start-same : (m : ℕ) (b : List ℕ) → length b ≡ 8 * m → Same m b (elements b)
start-same m b h = record { is = sym (joined-elements b m h); eights = elements-eights b; count = omega (arith, length-elements b) }

-- one turn of the loops in code
abbrev pub swap_bytes_in_rows : ℕ → ℕ → ℕ → ℕ → List ℕ → List ℕ
swap_bytes_in_rows n idx1 idx2 i b = joined (swap_in_rows [] n idx1 idx2 i (elements b))

abbrev pub swap_bytes_in_columns : ℕ → ℕ → ℕ → ℕ → List ℕ → List ℕ
swap_bytes_in_columns n idx1 idx2 i b = joined (swap_in_columns [] n idx1 idx2 i (elements b))

module _ (n : ℕ) (b : List ℕ) (idx1 idx2 : ℕ) (h : length b ≡ 8 * (n * n)) (p : idx1 < n) (q : idx2 < n) where
  pub rows-swapped : range 0 n (swap_bytes_in_rows n idx1 idx2) b ≡ swap_rows_bytes n b idx1 idx2
  unfolding swap_rows_bytes swap_rows swap_in_rows
  rows-swapped =
      (range2_ind (λ i c es. Same (n * n) c es) 0 n (swap_bytes_in_rows n idx1 idx2) (swap_in_rows [] n idx1 idx2) b (elements b) (omega arith) (start-same (n * n) b h)
      (λ i u v c es S. swap-same (n * n) (idx1 * n + i) (idx2 * n + i) c es (cell_lt n idx1 i p v) (cell_lt n idx2 i q v) S)).is

  pub columns_swapped : range 0 n (swap_bytes_in_columns n idx1 idx2) b ≡ swap_columns_bytes n b idx1 idx2
  unfolding swap_columns_bytes swap_columns swap_in_columns
  columns_swapped =
      (range2_ind (λ i c es. Same (n * n) c es) 0 n (swap_bytes_in_columns n idx1 idx2) (swap_in_columns [] n idx1 idx2) b (elements b) (omega arith) (start-same (n * n) b h)
      (λ i u v c es S. swap-same (n * n) (i * n + idx1) (i * n + idx2) c es (cell_lt n i idx1 v p) (cell_lt n i idx2 v q) S)).is
