-- A matrix of n rows is the list of its n * n entries in row order.
use Rattle.std.specs.Prelude.{◌≡◌, List, ℕ, ◌+◌, ◌*◌, ◌≤◌, length, get_or, set, replicate, Float}
use Rattle.std.specs.Float.{nan}
use Rattle.arithmetic.specs.Double.{plus_zero}

-- entry (i, j)
abbrev pub at : ℕ → List Float → ℕ → ℕ → Float
at n m i j = get_or m (i * n + j) nan

-- the matrix with v at (i, j)
abbrev pub put : ℕ → List Float → ℕ → ℕ → Float → List Float
put n m i j v = set m (i * n + j) v

-- k times +0.0
abbrev pub zeros : ℕ → List Float
zeros k = replicate k plus_zero

-- n rows of n entries, at most 48 of them
pub record Square (n : ℕ) (m : List Float) : Type 0 where
  pub len : length m ≡ n * n
  pub small : n ≤ 48
