-- The count of inexact roots that calls and records hand back: a run's, or 0.
use mathlib.Core.Path.{refl, sym, ap, ◌∙◌, subst}
use Prim.Native.Nat.{ℕ}
use native.Mathlib.Omega.{arith}
use lib.ListN.{length}
use Rattle.arithmetic.specs.Outcome.{complete, Outcome}
use Rattle.arithmetic.proofs.Cases.{is, holds, fails}
use Rattle.methods.specs.Calls.{method_of, unstarted, factor_checks, call_with}
use Rattle.methods.specs.Factor.{tolerances}
use Rattle.results.specs.Results.{Count}
use Rattle.results.proofs.Theorem.{counts}
use Rattle.encoding.specs.Bytes.{doubles}
use Rattle.byte_factor.specs.Factor.{factor_byte_checks, bytes_call_with}
use Rattle.answer_record.specs.AnswerRecord.{longest_answer}
use Rattle.record.specs.MatrixRecord.{request, numbers_of, matrix_of, record_checks}
use Rattle.record.specs.Record.{result_of}
use Rattle.whole_calls.specs.InexactCount.{CallCountTheorem, ByteCallCountTheorem, RecordCountTheorem}
use Rattle.whole_calls.proofs.Answers.{kept}
use Rattle.whole_calls.proofs.ReadBackTheorem.{read_back}

unstarted-count : (n : ℕ) (outcome : Outcome) → Count n (unstarted outcome)
unstarted-count n outcome = record { most = omega arith; refused = λ c. refl }

pub call-count : CallCountTheorem
unfolding call_with
call-count numbering numbers method n a l work e p =
    let checks = factor_checks method n a numbering (length l) (length work) (length e) (length p) in
    elim (is (complete checks)) [ holds c ↦ rw c (counts (method_of method) tolerances numbers n a) | fails c ↦ rw c (unstarted-count n checks) ]

pub byte_call_count : ByteCallCountTheorem
unfolding bytes_call_with
byte_call_count numbering numbers method n a l work e p =
    let checks = factor_byte_checks method n a numbering (length l) (length work) (length e) (length p) in
    elim (is (complete checks)) [ holds c ↦ rw c (counts (method_of method) tolerances numbers n (doubles a)) | fails c ↦ rw c (unstarted-count n checks) ]

pub record_count : RecordCountTheorem
record_count b = (result, subst (Count (request b).size) (sym (ap (λ r. r.decomposition) (read_back b) ∙ kept (result_of b))) result)
  where
    result : Count (request b).size (result_of b).decomposition
    result = unfold result_of in
        (let checks = record_checks b longest_answer in
        elim (is (complete checks)) [
          | holds c ↦ rw c (counts (method_of (request b).method) tolerances (numbers_of b) (request b).size (matrix_of b))
          | fails c ↦ rw c (unstarted-count (request b).size checks)
        ])
