-- Document 01's load orders, and the matrix that is loaded by one.
use Rattle.std.specs.Prelude.{◌≡◌, List, ℕ, ◌*◌, ◌/◌, ◌%◌, ◌<◌, length, get_or, Float}
use Rattle.matrix.specs.Matrix.{at}
use Rattle.matrix.specs.Table.{table}

-- a load order lists 0 to n - 1, each once
pub record LoadOrder (n : ℕ) (s : List ℕ) : Type 0 where
  pub len : length s ≡ n
  pub below : (i : ℕ) → i < n → get_or s i 0 < n
  pub once : (i k : ℕ) → i < n → k < n → get_or s i 0 ≡ get_or s k 0 → i ≡ k

-- reloading by s: entry (i, j) has the bits of the first matrix's entry (s[i], s[j])
abbrev pub reload : ℕ → List ℕ → List Float → List Float
reload n s a = table (n * n) (λ k. at n a (get_or s (k / n) 0) (get_or s (k % n) 0))
