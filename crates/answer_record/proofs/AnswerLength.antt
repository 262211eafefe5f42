-- How long an answer record is: 17 bytes for a refusal, at most 18,889.
use mathlib.Core.Path.{◌≡◌, ◌∙◌}
use mathlib.Core.Bool.{true, false}
use Prim.Native.Nat.{ℕ, ◌+◌, ◌*◌, ◌≤◌}
use native.Mathlib.Omega.{arith}
use lib.ListN.{length, length-append}
use Rattle.arithmetic.specs.Outcome.{place, complete}
use Rattle.arithmetic.proofs.Cases.{is, holds, fails}
use Rattle.methods.specs.Result.{Result}
use Rattle.answer_record.specs.AnswerRecord.{longest_answer, marks_fields, place_field, answer_record}
use Rattle.answer_record.specs.Writing.{Fits}
use Rattle.answer_record.proofs.WriteFields.{complete_fields, length-marks, length-complete_fields, length-place}

module _ (r : Result) where
  pub complete-length : complete r.decomposition.outcome ≡ true → length (answer_record r) ≡ 25 + length r.p + 8 * length r.e + 8 * length r.l
  unfolding answer_record
  complete-length c =
      rw c (length-append (marks_fields r.decomposition) (complete_fields r) ∙ omega (arith, length-marks r.decomposition, length-complete_fields r))

  pub refused-length : complete r.decomposition.outcome ≡ false → length (answer_record r) ≡ 17
  unfolding answer_record
  refused-length c =
      let at = place r.decomposition.outcome in
      rw c (length-append (marks_fields r.decomposition) (place_field at) ∙ omega (arith, length-marks r.decomposition, length-place at))

  pub answer-length : (n : ℕ) → complete r.decomposition.outcome ≡ true → length r.p ≡ n → length r.e ≡ n → length r.l ≡ n * n
      → length (answer_record r) ≡ 25 + n + 8 * n + 8 * (n * n)
  answer-length n c p e l = complete-length c ∙ rw (p, e, l)

  pub longest_answer_lem : complete r.decomposition.outcome ≡ true → length r.p ≡ 48 → length r.e ≡ 48 → length r.l ≡ 2304 → length (answer_record r) ≡ longest_answer
  longest_answer_lem c p e l = answer-length 48 c p e l

  pub answer-fits : Fits r → length (answer_record r) ≤ longest_answer
  answer-fits f = elim (is (complete r.decomposition.outcome)) [
    | holds c ↦ omega (arith, complete-length c)
    | fails c ↦ omega (arith, refused-length c)
  ]
