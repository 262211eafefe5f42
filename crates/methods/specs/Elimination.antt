-- Symmetric matrices, and what stands where while one of them is eliminated row by row, on and below the diagonal.
use Rattle.std.specs.Prelude.{◌≡◌, List, Bool, cond, ℕ, ◌+◌, ◌*◌, ◌/◌, ◌%◌, ◌≤◌, ◌<◌, length, get_or, leb, Float}
use Rattle.std.specs.Float.{nan}
use Rattle.std.specs.Float.Ieee.Scale.{finite}
use Rattle.arithmetic.specs.All.{all}
use Rattle.arithmetic.specs.Double.{◌⊖◌, ◌⊗◌}
use Rattle.arithmetic.specs.Loop.{range}
use Rattle.matrix.specs.Matrix.{at}
use Rattle.matrix.specs.Swap.{swap}
use Rattle.matrix.specs.Table.{table}

pub record Symmetric (n : ℕ) (m : List Float) : Type 0 where
  pub same : (x y : ℕ) → x < n → y < n → at n m x y ≡ at n m y x

-- the symmetric matrix whose entries on and below the diagonal are those of m
unfoldable pub mirrored : ℕ → List Float → List Float
unfolding table
mirrored n m = table (n * n) (λ k. cond (leb (k % n) (k / n)) (at n m (k / n) (k % n)) (at n m (k % n) (k / n)))

-- rows j and q before column j change places
unfoldable pub swap_left : ℕ → ℕ → ℕ → List Float → List Float
unfolding range
swap_left n j q l = range 0 j (λ k m. swap nan m (j * n + k) (q * n + k)) l

-- column j and row q between rows j and q
unfoldable pub swap_between : ℕ → ℕ → ℕ → List Float → List Float
unfolding range
swap_between n j q l = range (j + 1) q (λ k m. swap nan m (k * n + j) (q * n + k)) l

-- columns j and q below row q
unfoldable pub swap_below : ℕ → ℕ → ℕ → List Float → List Float
unfolding range
swap_below n j q l = range (q + 1) n (λ k m. swap nan m (k * n + j) (k * n + q)) l

-- l is m but at the cells (row k, column k), k from a to b - 1
abbrev pub Rest : ℕ → ℕ → (ℕ → ℕ) → (ℕ → ℕ) → List Float → ℕ → List Float → Type 0
Rest n a row column m b l = (x y : ℕ) → x < n → y < n → ((k : ℕ) → a ≤ k → k < b → x ≡ row k → y ≡ column k → ⊥) → at n l x y ≡ at n m x y

-- .. where it has f k
pub record Stored (n a : ℕ) (row column : ℕ → ℕ) (f : ℕ → Float) (m : List Float) (b : ℕ) (l : List Float) : Type 0 where
  pub entries : length l ≡ n * n
  pub done : (k : ℕ) → a ≤ k → k < b → at n l (row k) (column k) ≡ f k
  pub rest : Rest n a row column m b l

-- .. ok: whether these are finite
pub record CellsWritten (n a : ℕ) (row column : ℕ → ℕ) (f : ℕ → Float) (m : List Float) (b : ℕ) (l : List Float) (ok : Bool) : Type 0 where
  pub stored : Stored n a row column f m b l
  pub tested : ok ≡ all a b (λ k. finite (f k))

-- the places a to b - 1 of row i, and of column j
abbrev pub RowWritten : ℕ → ℕ → ℕ → (ℕ → Float) → List Float → ℕ → List Float → Bool → Type 0
RowWritten n i a f m b l ok = CellsWritten n a (λ k. i) (λ k. k) f m b l ok

abbrev pub ColumnWritten : ℕ → ℕ → ℕ → (ℕ → Float) → List Float → ℕ → List Float → Bool → Type 0
ColumnWritten n j a f m b l ok = CellsWritten n a (λ k. k) (λ k. j) f m b l ok

-- entry (x, y) less the product of two entries of the divided column c
abbrev pub subtracted : ℕ → List Float → List Float → ℕ → ℕ → Float
subtracted n m c x y = at n m x y ⊖ get_or c x nan ⊗ get_or c y nan

-- l is m with the products subtracted in the rows j + 1 to i - 1, from column j + 1 to the diagonal; ok: whether what stands there is finite
pub record RowsEliminated (n j : ℕ) (c m : List Float) (i : ℕ) (l : List Float) (ok : Bool) : Type 0 where
  pub entries : length l ≡ n * n
  pub done : (x y : ℕ) → j < x → x < i → j < y → y ≤ x → at n l x y ≡ subtracted n m c x y
  pub rest : (x y : ℕ) → x < n → y < n → (j < x → x < i → j < y → y ≤ x → ⊥) → at n l x y ≡ at n m x y
  pub tested : ok ≡ all (j + 1) i (λ x. all (j + 1) (x + 1) (λ y. finite (subtracted n m c x y)))
