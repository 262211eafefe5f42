-- Of L only the lower part is read: what stands above the diagonal, a NaN too, has no part in the call's answer.
-- Proved as `lower-part` in proofs/LowerPart.antt.
use Rattle.std.specs.Prelude.{◌≡◌, List, ℕ, ◌≤◌, ◌<◌, length, Float}
use Rattle.matrix.specs.Matrix.{at}
use Rattle.solve.specs.Substitution.{solve_call}

-- the same on and below the diagonal
pub record SameLower (n : ℕ) (l l' : List Float) : Type 0 where
  pub len : length l ≡ length l'
  pub entries : (i j : ℕ) → i < n → j ≤ i → at n l i j ≡ at n l' i j

abbrev pub LowerPartTheorem : Type 0
LowerPartTheorem =
    (n : ℕ) (l l' : List Float) (p : List ℕ) (b y : List Float)
    → SameLower n l l'
    → solve_call n l p b y ≡ solve_call n l' p b y
