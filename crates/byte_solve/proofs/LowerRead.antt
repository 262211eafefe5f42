-- Turns of the loops that read a lower part: the entries of a row so far, and the rows so far.
use mathlib.Core.Path.{◌≡◌, ◌∙◌}
use mathlib.Core.List.{List}
use Prim.Native.Nat.{ℕ, suc, ◌+◌, ◌*◌, ◌≤◌, ◌<◌}
use native.Mathlib.Decide.{ℕ_discrete}
use native.Mathlib.Nat.{mul-le-mul_right, suc-mul}
use native.Mathlib.Omega.{arith}
use lib.ListN.{length, get_or, length-set}
use lib.Seq.{get_or-set_same, get_or-set_other}
use lib.Ieee.{Float, nan}
use Rattle.matrix.specs.Matrix.{at, put}

-- the first j entries of row i are l's, and the rows before are as in a₀
pub record RowRead (n i j : ℕ) (l a₀ a : List Float) : Type 0 where
  pub high : j ≤ i + 1
  pub len : length a ≡ length a₀
  pub row : (k : ℕ) → k < j → at n a i k ≡ at n l i k
  pub before : (k : ℕ) → k < i * n → get_or a k nan ≡ get_or a₀ k nan

pub row_turn : (n i j : ℕ) (l a₀ a : List Float) (v : Float) → RowRead n i j l a₀ a → j < i + 1 → i * n + j < length a → v ≡ at n l i j → RowRead n i (j + 1) l a₀ (put n a i j v)
row_turn n i j l a₀ a v R q h e = record {
  high = omega arith;
  len = length-set a (i * n + j) v ∙ R.len;
  row = λ k p. elim (ℕ_discrete k j) [ yes s ↦ rw s (get_or-set_same a (i * n + j) v nan h ∙ e) | no s ↦ get_or-set_other a (i * n + j) (i * n + k) v nan (λ g. s (omega arith)) ∙ R.row k (omega arith) ];
  before = λ k p. get_or-set_other a (i * n + j) k v nan (λ g. omega arith) ∙ R.before k p;
}

-- the rows before i are l's up to the diagonal
pub record RowsRead (n i : ℕ) (l a₀ a : List Float) : Type 0 where
  pub high : i ≤ n
  pub len : length a ≡ length a₀
  pub rows : (t j : ℕ) → t < i → j ≤ t → at n a t j ≡ at n l t j

pub rows-turn : (n i : ℕ) (l a₀ a a' : List Float) → RowsRead n i l a₀ a → i < n → length a' ≡ length a → ((j : ℕ) → j ≤ i → at n a' i j ≡ at n l i j) → ((k : ℕ) → k < i * n → get_or a' k nan ≡ get_or a k nan) → RowsRead n (i + 1) l a₀ a'
rows-turn n i l a₀ a a' R h e row before = record {
  high = omega arith;
  len = e ∙ R.len;
  rows = λ t j p q. elim (ℕ_discrete t i) [ yes s ↦ rw s (row j (omega arith)) | no s ↦ before (t * n + j) (earlier t j (omega arith) q) ∙ R.rows t j (omega arith) q ];
}
  where
    earlier : (t j : ℕ) → t < i → j ≤ t → t * n + j < i * n
    earlier t j p q = let a : suc t * n ≤ i * n = mul-le-mul_right n p in let b : suc t * n ≡ t * n + n = suc-mul t n in omega arith
