-- The checks of lengths in bytes, eight for each double and four for each contract number, and of contract numbers.
use Rattle.std.specs.Prelude.{List, not, ℕ, ◌*◌, ◌%◌, eqb, length}
use Rattle.arithmetic.specs.Outcome.{refuse, ◌then◌}
use Rattle.arithmetic.specs.Outcome.{Outcome}
use Rattle.arithmetic.specs.declared.refusal.Refusal.TheVariants.{MatrixLength, NumbersLength}
use Rattle.matrix.specs.Checks.{check_distinct}
use Rattle.encoding.specs.Bytes.{numbers}

-- 4: a whole number of doubles
abbrev pub check_whole : ℕ → Outcome
check_whole len = refuse (not (eqb (len % 8) 0)) MatrixLength

-- 4: n rows of n doubles
abbrev pub check_entries : ℕ → ℕ → Outcome
check_entries n len = refuse (not (eqb len (8 * (n * n)))) MatrixLength

-- 12: n contract numbers
abbrev pub check_number_bytes : ℕ → ℕ → Outcome
check_number_bytes n len = refuse (not (eqb len (4 * n))) NumbersLength

-- 12, 13
abbrev pub number_byte_checks : ℕ → List ℕ → Outcome
number_byte_checks n content = check_number_bytes n (length content) then check_distinct (numbers content)
