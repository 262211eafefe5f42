-- The matrices that the theorems about whole runs are about.
use Rattle.std.specs.Prelude.{◌≡◌, true, List, ℕ, ◌*◌, ◌<◌, length, T, Float}
use Rattle.std.specs.Float.{binary64}
use Rattle.std.specs.Float.Ieee.{fits}
use Rattle.std.specs.Float.Ieee.Scale.{finite}
use Rattle.matrix.specs.Matrix.{at}

-- a matrix that the checks accept: n * n doubles, finite, (i, j) and (j, i) the same
pub record AcceptedMatrix (n : ℕ) (a : List Float) : Type 0 where
  pub entries : length a ≡ n * n
  pub doubles : (i j : ℕ) → i < n → j < n → T (fits binary64 (at n a i j))
  pub finite_entries : (i j : ℕ) → i < n → j < n → finite (at n a i j) ≡ true
  pub symmetric : (i j : ℕ) → i < n → j < n → at n a i j ≡ at n a j i
