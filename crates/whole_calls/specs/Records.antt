-- Load order of two whole records, the first of a matrix, the second of its reloading: the checks pass both, and what they end with is
-- alike, as are their answers. Proved as `records` and, with contract numbers, as `numbered_records` in proofs/Records.antt.
use Rattle.std.specs.Prelude.{◌≡◌, true, List, ℕ, ◌≤◌, length, Float}
use Rattle.arithmetic.specs.Outcome.{complete}
use Rattle.matrix.specs.Checks.{Distinct}
use Rattle.matrix.specs.Plain.{AllBelow}
use Rattle.methods.specs.AcceptedMatrix.{AcceptedMatrix}
use Rattle.methods.specs.Calls.{method_of}
use Rattle.methods.specs.Reloading.{LoadOrder, reload}
use Rattle.load_order.specs.LoadOrder.{Alike}
use Rattle.load_order.specs.Numbered.{reload_numbers, NumberedAlike}
use Rattle.encoding.specs.Bytes.{double_bytes}
use Rattle.answer_record.specs.AnswerRecord.{longest_answer}
use Rattle.record.specs.MatrixRecord.{matrix_record, numbered_record, record_checks}
use Rattle.whole_calls.specs.NumberBytes.{number_bytes}
use Rattle.whole_calls.specs.ReadBack.{read_answer}
use Rattle.record.specs.Record.{result_of, answer}

-- the record that has the bytes of a's entries
abbrev pub record_of : ℕ → ℕ → List Float → List ℕ
record_of method n a = matrix_record n method (double_bytes a)

pub record RecordsAlike (n : ℕ) (s : List ℕ) (b b' : List ℕ) : Type 0 where
  pub first_passes : complete (record_checks b longest_answer) ≡ true
  pub second_passes : complete (record_checks b' longest_answer) ≡ true
  pub alike : Alike n s (result_of b) (result_of b')
  -- the answers' bytes, read back
  pub answers_alike : Alike n s (read_answer (answer b)) (read_answer (answer b'))

abbrev pub RecordsTheorem : Type 0
RecordsTheorem =
    (method n : ℕ) (a : List Float) (s : List ℕ)
    → 1 ≤ method → method ≤ 3 → 1 ≤ n → n ≤ 48 → AcceptedMatrix n a → LoadOrder n s
    → RecordsAlike n s (record_of method n a) (record_of method n (reload n s a))

-- ---- with contract numbers, which move with their contracts
abbrev pub numbered_record_of : ℕ → ℕ → List ℕ → List Float → List ℕ
numbered_record_of method n numbers a = numbered_record n method (number_bytes numbers) (double_bytes a)

pub record NumberedRecordsAlike (method n : ℕ) (s : List ℕ) (b b' : List ℕ) : Type 0 where
  pub first_passes : complete (record_checks b longest_answer) ≡ true
  pub second_passes : complete (record_checks b' longest_answer) ≡ true
  pub alike : NumberedAlike (method_of method) n s (result_of b) (result_of b')
  pub answers_alike : NumberedAlike (method_of method) n s (read_answer (answer b)) (read_answer (answer b'))

abbrev pub NumberedRecordsTheorem : Type 0
NumberedRecordsTheorem =
    (method n : ℕ) (a : List Float) (numbers s : List ℕ)
    → 1 ≤ method → method ≤ 3 → 1 ≤ n → n ≤ 48 → AcceptedMatrix n a → length numbers ≡ n → AllBelow 0x1_0000_0000 numbers → Distinct numbers → LoadOrder n s
    → NumberedRecordsAlike method n s (numbered_record_of method n numbers a) (numbered_record_of method n (reload_numbers n s numbers) (reload n s a))
