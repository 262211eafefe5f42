-- Document 02's count of inexact roots, of calls and records as of runs: at most n, and 0 beside a refusal. With no condition on the operands.
-- Proved in proofs/InexactCount.antt as `call-count`, `byte_call_count` and `record_count`.
use Rattle.std.specs.Prelude.{List, ℕ, Float}
use Rattle.arithmetic.specs.Outcome.{Outcome}
use Rattle.methods.specs.Calls.{call_with}
use Rattle.results.specs.Results.{Count}
use Rattle.byte_factor.specs.Factor.{bytes_call_with}
use Rattle.record.specs.MatrixRecord.{request}
use Rattle.record.specs.Record.{result_of, answer}
use Rattle.whole_calls.specs.ReadBack.{read_answer}

-- with contract numbers and without: `numbering` is what their checks come to
abbrev pub CallCountTheorem : Type 0
CallCountTheorem = (numbering : Outcome) (numbers : List ℕ) (method n : ℕ) (a l work e : List Float) (p : List ℕ) → Count n (call_with numbering numbers method n a l work e p).decomposition

abbrev pub ByteCallCountTheorem : Type 0
ByteCallCountTheorem = (numbering : Outcome) (numbers : List ℕ) (method n : ℕ) (a l work e p : List ℕ) → Count n (bytes_call_with numbering numbers method n a l work e p).decomposition

-- of the result, and of what the answer's bytes say of it
abbrev pub RecordCountTheorem : Type 0
RecordCountTheorem = (b : List ℕ) → Count (request b).size (result_of b).decomposition × Count (request b).size (read_answer (answer b)).decomposition
