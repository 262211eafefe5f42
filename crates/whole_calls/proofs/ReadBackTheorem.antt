-- The answer to any list of bytes is read back: its result fits an answer record, and its amounts and entries of L are doubles.
use mathlib.Core.Path.{◌≡◌, refl}
use mathlib.Core.Bool.{false}
use mathlib.Core.List.{List}
use Prim.Native.Nat.{ℕ}
use native.Mathlib.Omega.{arith}
use Rattle.arithmetic.specs.Outcome.{complete, Outcome}
use Rattle.arithmetic.proofs.Cases.{Is, is, holds, fails}
use Rattle.matrix.specs.Checks.{check_symmetric}
use Rattle.matrix.proofs.CheckLaws.{Accepted}
use Rattle.methods.specs.Calls.{method_of}
use Rattle.methods.specs.Result.{Result}
use Rattle.results.proofs.Theorem.{results}
use Rattle.encoding.specs.Bytes.{numbers, doubles}
use Rattle.answer_record.specs.AnswerRecord.{longest_answer, answer_record}
use Rattle.record.specs.MatrixRecord.{request, contracts_of, entries_of, request_checks, byte_checks}
use Rattle.whole_calls.specs.ReadBack.{read_answer}
use Rattle.whole_calls.specs.ReadBackTheorem.{shown, ReadBackTheorem}
use Rattle.record.specs.Record.{refused, result_of, result_to, answer}
use Rattle.answer_record.specs.Writing.{Fits}
use Rattle.record.specs.declared.read.Request.{Request}
use Rattle.record.proofs.Accepted.{request-accepted, matrix-accepted}
use Rattle.record.proofs.Answers.{answer-request, bytes-refused}
use Rattle.record.proofs.Early.{bytes-parts}
use Rattle.whole_calls.proofs.ReadBack.{read_complete, read_refused}
use Rattle.arithmetic.specs.DoubleList.{AllDoubles}
use Rattle.record.proofs.SoundFits.{request-fits, bytes_fit}

-- what reading back asks of a result
record Readable (r : Result) : Type 0 where
  fits : Fits r
  factor : AllDoubles r.l
  amounts : AllDoubles r.e
  refused-count : complete r.decomposition.outcome ≡ false → r.decomposition.inexact ≡ 0

read_shown : (r : Result) → Readable r → read_answer (answer_record r) ≡ shown r
read_shown r R = elim (is (complete r.decomposition.outcome)) [
  | holds c ↦ rw c (read_complete r R.fits c R.amounts R.factor)
  | fails c ↦ rw c (read_refused r R.fits c (R.refused-count c))
]

refused-readable : (o : Outcome) → Fits (refused o) → Readable (refused o)
refused-readable o f = record { fits = f; factor = λ k h. absurd (omega arith); amounts = λ k h. absurd (omega arith); refused-count = λ c. refl }

module _ (r : Request) (room : ℕ) (contracts entries : List ℕ) (h : Accepted (request_checks r room contracts entries)) where
  request-readable : Readable (result_to r contracts entries)
  unfolding result_to
  request-readable = go (is (complete (check_symmetric r.size (doubles entries)))) (request-fits r room contracts entries h)
    where
      go : Is (complete (check_symmetric r.size (doubles entries))) → Fits (result_to r contracts entries) → Readable (result_to r contracts entries)
      go (holds c) = rw c (λ f.
          let s = results (method_of r.method) (numbers contracts) r.size (doubles entries) (request-accepted r room contracts entries h).0.some (matrix-accepted r room contracts entries h (record { is = c })) in
          record { fits = f; factor = s.doubles.0; amounts = s.doubles.1; refused-count = s.count.refused })
      go (fails c) = rw c (refused-readable (check_symmetric r.size (doubles entries)))

result-readable : (b : List ℕ) → Readable (result_of b)
result-readable b = elim (is (complete (byte_checks b longest_answer))) [
  | holds c ↦ rw (answer-request b c) (request-readable (request b) longest_answer (contracts_of b) (entries_of b) (bytes-parts b longest_answer (record { is = c })))
  | fails c ↦ rw (bytes-refused b c) (refused-readable (byte_checks b longest_answer) (bytes_fit b))
]

pub read_back : ReadBackTheorem
unfolding answer
read_back b = read_shown (result_of b) (result-readable b)
