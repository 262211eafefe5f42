-- The checks that solving alone makes, each with its refusal and place (document 02, N3).
use Rattle.std.specs.Prelude.{List, Bool, not, ◌||◌, ℕ, ◌+◌, length, leb, ltb, Float}
use Rattle.std.specs.Float.Ieee.{eq}
use Rattle.std.specs.Float.Ieee.Scale.{finite}
use Rattle.arithmetic.specs.Double.{plus_zero}
use Rattle.arithmetic.specs.First.{first}
use Rattle.arithmetic.specs.Outcome.{refuse}
use Rattle.arithmetic.specs.Outcome.{Outcome}
use Rattle.arithmetic.specs.declared.refusal.Refusal.TheVariants.{IndexOutOfRange, NotFinite, ZeroDiagonal}
use Rattle.matrix.specs.Matrix.{at}
use Rattle.matrix.specs.Checks.{out_of_range, came_before}

-- 6: the first position of p whose index isn't below n or came before
abbrev pub wrong_index : ℕ → List ℕ → ℕ → Bool
wrong_index n p k = out_of_range n p k || came_before p k

abbrev pub first_wrong : ℕ → List ℕ → ℕ
first_wrong n p = first (wrong_index n p) (length p)

abbrev pub check_order : ℕ → List ℕ → Outcome
check_order n p = refuse (ltb (first_wrong n p) (length p)) (IndexOutOfRange (first_wrong n p))

-- the first column of row i, up to the diagonal, whose entry isn't finite; i + 1 where there is none
abbrev pub first_in_row : ℕ → List Float → ℕ → ℕ
first_in_row n l i = first (λ j. not (finite (at n l i j))) (i + 1)

-- the first row with such an entry; n where there is none
abbrev pub first_row : ℕ → List Float → ℕ
first_row n l = first (λ i. leb (first_in_row n l i) i) n

-- 7: of L's lower part, the first in row order
abbrev pub check_lower : ℕ → List Float → Outcome
check_lower n l = refuse (ltb (first_row n l) n) (NotFinite (first_row n l) (first_in_row n l (first_row n l)))

-- 15: the first row whose diagonal entry is zero; +0.0 and -0.0 are equal
abbrev pub first_zero : ℕ → List Float → ℕ
first_zero n l = first (λ i. eq (at n l i i) plus_zero) n

abbrev pub check_divisors : ℕ → List Float → Outcome
check_divisors n l = refuse (ltb (first_zero n l) n) (ZeroDiagonal (first_zero n l))
