-- The answer to any list of bytes, read back, is the result that the list's checks and run end with. Proved as `read_back` (proofs/ReadBackTheorem.antt).
use Rattle.std.specs.Prelude.{◌≡◌, cond, List, [], ℕ}
use Rattle.arithmetic.specs.Outcome.{complete}
use Rattle.methods.specs.Result.{Result}
use Rattle.answer_record.specs.Writing.{result_with}
use Rattle.record.specs.Record.{result_of, answer}
use Rattle.whole_calls.specs.ReadBack.{read_answer}

-- what an answer record holds of a result: all of it, or of a refusal the outcome with its place, the tied and the phase-two step. The count of
-- inexact roots, which a refusal does not show, is 0 there.
abbrev pub shown : Result → Result
shown r = cond (complete r.decomposition.outcome) r (result_with r.decomposition [] [] [])

abbrev pub ReadBackTheorem : Type 0
ReadBackTheorem = (b : List ℕ) → read_answer (answer b) ≡ shown (result_of b)
