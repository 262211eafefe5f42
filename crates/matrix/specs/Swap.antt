-- src/utils.rs: swap_rows, swap_columns, and the swap of two elements that they are made of, over any elements.
use Rattle.std.specs.Prelude.{List, ℕ, ◌+◌, ◌*◌, get_or, set}
use Rattle.arithmetic.specs.Loop.{range}

-- the elements at x and y change places; d is what a read beyond the end gives
abbrev pub swap : {A : Type 0} → A → List A → ℕ → ℕ → List A
swap d l x y = set (set l x (get_or l y d)) y (get_or l x d)

-- mat.swap((idx1, i), (idx2, i))
unfoldable pub swap_in_rows : {A : Type 0} → A → ℕ → ℕ → ℕ → ℕ → List A → List A
swap_in_rows d n idx1 idx2 i mat = swap d mat (idx1 * n + i) (idx2 * n + i)

-- mat.swap((i, idx1), (i, idx2))
unfoldable pub swap_in_columns : {A : Type 0} → A → ℕ → ℕ → ℕ → ℕ → List A → List A
swap_in_columns d n idx1 idx2 i mat = swap d mat (i * n + idx1) (i * n + idx2)

unfoldable pub swap_rows : {A : Type 0} → A → ℕ → List A → ℕ → ℕ → List A
unfolding range swap_in_rows
swap_rows d n mat idx1 idx2 = range 0 n (swap_in_rows d n idx1 idx2) mat

unfoldable pub swap_columns : {A : Type 0} → A → ℕ → List A → ℕ → ℕ → List A
unfolding range swap_in_columns
swap_columns d n mat idx1 idx2 = range 0 n (swap_in_columns d n idx1 idx2) mat
