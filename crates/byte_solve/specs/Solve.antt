-- What solving on bytes answers: its outcome and y.
use Rattle.std.specs.Prelude.{List, cond, ℕ, ◌*◌, length}
use Rattle.arithmetic.specs.Outcome.{complete, ◌then◌}
use Rattle.arithmetic.specs.Outcome.{Outcome}
use Rattle.matrix.specs.Checks.{check_size, check_buffer, check_finite, check_list}
use Rattle.encoding.specs.Bytes.{doubles, double_bytes}
use Rattle.encoding.specs.Checks.{check_entries}
use Rattle.solve.specs.Checks.{check_order, check_lower}
use Rattle.solve.specs.Substitution.{SolveCall, solve, content_checks}

pub record SolveBytesCall : Type 0 where
  pub outcome : Outcome
  pub y : List ℕ

abbrev pub solve_bytes_call_of : Outcome → List ℕ → SolveBytesCall
solve_bytes_call_of outcome y = record { outcome = outcome; y = y }

-- 3, 4, 5, 14, on the lengths of L, y, p and b in bytes; p has one byte an index
abbrev pub length_byte_checks : ℕ → ℕ → ℕ → ℕ → ℕ → Outcome
length_byte_checks n l y p b = check_size n then check_entries n l then check_buffer (8 * n) y then check_list n p then check_list (8 * n) b

-- .. then 6, 7, 15
abbrev pub solve_byte_checks : ℕ → List ℕ → ℕ → List ℕ → List ℕ → Outcome
solve_byte_checks n l y p b = length_byte_checks n (length l) y (length p) (length b) then content_checks n (doubles l) p (doubles b)

abbrev pub solved_bytes : SolveCall → SolveBytesCall
solved_bytes c = solve_bytes_call_of c.outcome (double_bytes c.y)

-- refused before the first row: y untouched
abbrev pub solve_bytes_call : ℕ → List ℕ → List ℕ → List ℕ → List ℕ → SolveBytesCall
solve_bytes_call n l p b y =
    let checks = solve_byte_checks n l (length y) p b in
    cond (complete checks) (solved_bytes (solve n (doubles l) p (doubles b))) (solve_bytes_call_of checks y)

-- of content_checks, those made before there are doubles: 6, 7
abbrev pub pattern_checks : ℕ → List ℕ → List ℕ → List ℕ → Outcome
pattern_checks n l p b = check_order n p then check_lower n (doubles l) then check_finite 1 (doubles b)
