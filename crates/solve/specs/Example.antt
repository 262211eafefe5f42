-- Solve calls by hand: eleven small ones, of which each lent y holds 5, 5, .. before. Proved as `examples` in proofs/Example.antt.
use Rattle.std.specs.Prelude.{◌≡◌, true, false, List, [], ◌∷◌, ℕ, pos, negsuc, replicate, Float}
use Rattle.std.specs.Float.{nan, inf, fin}
use Rattle.arithmetic.specs.Double.{plus_zero}
use Rattle.arithmetic.specs.Outcome.{Outcome}
use Rattle.std.specs.Prelude.{Ok, Err}
use Rattle.arithmetic.specs.declared.refusal.Refusal.TheVariants.{IndexOutOfRange, NotFinite, StoredNotFinite, ListLength, ZeroDiagonal}
use Rattle.matrix.specs.Matrix.{zeros}
use Rattle.solve.specs.Substitution.{solve_call_of, solve_call}

-- ---- numbers
abbrev 0· : Float
0· = plus_zero

abbrev -0· : Float
-0· = fin true 0 (pos 0)

abbrev 1· : Float
1· = fin false 1 (pos 0)

abbrev 2· : Float
2· = fin false 1 (pos 1)

abbrev 5· : Float
5· = fin false 5 (pos 0)

abbrev 6· : Float
6· = fin false 3 (pos 1)

abbrev 10· : Float
10· = fin false 5 (pos 1)

abbrev 2^53 : Float
2^53 = fin false 1 (pos 53)

abbrev -2^53 : Float
-2^53 = fin true 1 (pos 53)

abbrev 2^54 : Float
2^54 = fin false 1 (pos 54)

abbrev -2^54 : Float
-2^54 = fin true 1 (pos 54)

abbrev 2^-600 : Float
2^-600 = fin false 1 (negsuc 599)

abbrev 2^-1074 : Float
2^-1074 = fin false 1 (negsuc 1073)

abbrev lent : ℕ → List Float
lent n = replicate n 5·

-- ---- a case: n, L, p and b; how the call ends, and y
pub data Case : Type 0 where
  solving : ℕ → List Float → List ℕ → List Float → Outcome → List Float → Case

abbrev pub Solves : Case → Type 0
Solves (solving n l p b outcome y) = solve_call n l p b (lent n) ≡ solve_call_of outcome y

abbrev pub AllSolve : List Case → Type 0
AllSolve [] = Unit
AllSolve (case ∷ rest) = Solves case × AllSolve rest

abbrev pub cases : List Case
cases =
    -- GMW81's factor of (2 2; 2 4), with a NaN above the diagonal: y is (1, 2)
    solving 2 (2· ∷ nan ∷ 1· ∷ 1· ∷ []) (1 ∷ 0 ∷ []) (6· ∷ 10· ∷ []) (Ok tt) (1· ∷ 2· ∷ [])
    -- 2^53 + 1 + 1 by rising row is 2^53; by falling row it would be 2^53 + 2
    ∷ solving 4 (1· ∷ 0· ∷ 0· ∷ 0· ∷ 2^53 ∷ 1· ∷ 0· ∷ 0· ∷ 1· ∷ 0· ∷ 1· ∷ 0· ∷ 1· ∷ 0· ∷ 0· ∷ 1· ∷ []) (0 ∷ 1 ∷ 2 ∷ 3 ∷ []) (0· ∷ 1· ∷ 1· ∷ 1· ∷ []) (Ok tt) (-2^53 ∷ 1· ∷ 1· ∷ 1· ∷ [])
    -- forward, row 2: 1 - (2^54 - 2^54) is 1; taken one by one, (1 - 2^54) + 2^54 would be 0
    ∷ solving 3 (1· ∷ 0· ∷ 0· ∷ 0· ∷ 1· ∷ 0· ∷ 2^54 ∷ -2^54 ∷ 1· ∷ []) (0 ∷ 1 ∷ 2 ∷ []) (1· ∷ 1· ∷ 1· ∷ []) (Ok tt) (-2^54 ∷ 2^54 ∷ 1· ∷ [])
    -- the sums begin with +0.0, so -0.0 stays
    ∷ solving 1 (1· ∷ []) (0 ∷ []) (-0· ∷ []) (Ok tt) (-0· ∷ [])
    ∷ solving 1 (1· ∷ []) [] (1· ∷ []) (Err ListLength) (lent 1)
    ∷ solving 2 (1· ∷ 0· ∷ 0· ∷ 1· ∷ []) (0 ∷ 0 ∷ []) (1· ∷ 1· ∷ []) (Err (IndexOutOfRange 1)) (lent 2)
    ∷ solving 2 (0· ∷ 0· ∷ 1· ∷ inf false ∷ []) (0 ∷ 1 ∷ []) (nan ∷ 1· ∷ []) (Err (NotFinite 1 1)) (lent 2)
    ∷ solving 2 (0· ∷ 0· ∷ 1· ∷ 1· ∷ []) (1 ∷ 0 ∷ []) (1· ∷ nan ∷ []) (Err (NotFinite 1 0)) (lent 2)
    ∷ solving 2 (1· ∷ 0· ∷ 1· ∷ -0· ∷ []) (0 ∷ 1 ∷ []) (1· ∷ 1· ∷ []) (Err (ZeroDiagonal 1)) (lent 2)
    -- forward, 1 / 2^-1074
    ∷ solving 1 (2^-1074 ∷ []) (0 ∷ []) (1· ∷ []) (Err (StoredNotFinite 0)) (zeros 1)
    -- backward, 2^600 / 2^-600 in both rows: row 1 is first in time
    ∷ solving 2 (2^-600 ∷ 0· ∷ 0· ∷ 2^-600 ∷ []) (0 ∷ 1 ∷ []) (1· ∷ 1· ∷ []) (Err (StoredNotFinite 1)) (zeros 2)
    ∷ []
