-- Every list of bytes has one answer: the factorization where the checks accept it, and else the first refusal.
use mathlib.Core.Path.{◌≡◌, refl, ap, ◌∙◌}
use mathlib.Core.Logic.{◌⊎◌, inl, inr}
use mathlib.Core.List.{List}
use mathlib.Core.Bool.{true, false, true≢false}
use Prim.Native.Nat.{ℕ, ◌≤◌}
use native.Mathlib.Omega.{arith}
use borrow.Author.Tests.{eqb-false, not-true}
use lib.Ieee.{Float}
use Rattle.arithmetic.specs.Outcome.{Outcome, number, complete, ◌then◌}
use Rattle.arithmetic.proofs.OutcomeLaws.{refused-positive}
use Rattle.matrix.proofs.CheckLaws.{goes_on}
use Rattle.methods.specs.Result.{outcome_of}
use Rattle.methods.specs.Gmw81 as gmw
use Rattle.methods.specs.Gmw81.{mod_cholesky_gmw81}
use Rattle.methods.specs.Se as schnabel
use Rattle.methods.specs.Se.{mod_cholesky_se}
use Rattle.methods.specs.Factor.{factor, tolerances}
use Rattle.methods.specs.Calls.{method_of}
use Rattle.methods.specs.declared.method.Method.{Method}
use Rattle.methods.specs.declared.method.Method.TheVariants.{Gmw81, Se}
use Rattle.methods.specs.declared.schnabel_eskow.Tolerances.{Tolerances}
use Rattle.methods.specs.Marks.{Mark}
use Rattle.std.specs.Prelude.{Ok, Err, None, Some}
use Rattle.answer_record.specs.AnswerRecord.{longest_answer}
use Rattle.record.specs.MatrixRecord.{request, contracts_of, entries_of, numbers_of, matrix_of, byte_checks, record_checks}
use Rattle.record.specs.Record.{refused, result_of, result_to}
use Rattle.arithmetic.proofs.Cases.{is, holds, fails}
use Rattle.record.proofs.Accepted.{room_accepted}
use Rattle.record.proofs.Early.{bytes-parts, checks-early}

-- a chain ends with its first refusal
stops : (o rest : Outcome) → complete o ≡ false → (o then rest) ≡ o
stops (Ok _) rest h = absurd (true≢false h)
stops (Err refusal) rest h = refl

module _ (b : List ℕ) where
  pub answer-complete : complete (record_checks b longest_answer) ≡ true → result_of b ≡ factor (method_of (request b).method) tolerances (numbers_of b) (request b).size (matrix_of b)
  unfolding result_of
  answer-complete h = rw h

  pub answer-refused : complete (record_checks b longest_answer) ≡ false → result_of b ≡ refused (record_checks b longest_answer)
  unfolding result_of
  answer-refused h = rw h

  pub refused-outcome : complete (record_checks b longest_answer) ≡ false → (result_of b).decomposition.outcome ≡ record_checks b longest_answer
  refused-outcome h = rw (answer-refused h)

  -- where the checks on bytes pass, check 8 and the run are left
  pub answer-request : complete (byte_checks b longest_answer) ≡ true → result_of b ≡ result_to (request b) (contracts_of b) (entries_of b)
  unfolding result_of result_to
  answer-request h = rw (← goes_on (record { is = h }) refl)

  pub bytes-refused : complete (byte_checks b longest_answer) ≡ false → result_of b ≡ refused (byte_checks b longest_answer)
  bytes-refused h = let e : record_checks b longest_answer ≡ byte_checks b longest_answer = stops (byte_checks b longest_answer) _ h in answer-refused (rw e h) ∙ ap refused e

-- a buffer of another length is refused, by check 5 or an earlier one
pub other_room : (b : List ℕ) (room : ℕ) → (room ≡ longest_answer → ⊥) → complete (byte_checks b room) ≡ false
other_room b room h = elim (is (complete (byte_checks b room))) [
  | holds c ↦ absurd (h (room_accepted (request b) room (contracts_of b) (entries_of b) (bytes-parts b room (record { is = c }))))
  | fails c ↦ c
]

pub other_checks : (b : List ℕ) (room : ℕ) → (room ≡ longest_answer → ⊥) → record_checks b room ≡ byte_checks b room
other_checks b room h = stops (byte_checks b room) _ (other_room b room h)

-- ---- their numbers: 0 or 9 where the checks accept, any other where they refuse
outcome-number : (refused : Mark) → (number (outcome_of refused) ≡ 0) ⊎ (number (outcome_of refused) ≡ 9)
outcome-number None = inl refl
outcome-number (Some j) = inr refl

pub factor-number : (method : Method) (t : Tolerances) (numbers : List ℕ) (n : ℕ) (a : List Float)
    → let o = (factor method t numbers n a).decomposition.outcome in (number o ≡ 0) ⊎ (number o ≡ 9)
unfolding factor mod_cholesky_gmw81 mod_cholesky_se
factor-number Gmw81 t numbers n a = outcome-number (gmw.run numbers n a).progress.refused
factor-number (Se v) t numbers n a = outcome-number (schnabel.run v t numbers n a).progress.refused

module _ (b : List ℕ) where
  pub accepted_number : complete (record_checks b longest_answer) ≡ true → let o = (result_of b).decomposition.outcome in (number o ≡ 0) ⊎ (number o ≡ 9)
  accepted_number h = rw (answer-complete b h) (factor-number (method_of (request b).method) tolerances (numbers_of b) (request b).size (matrix_of b))

  pub refused-number : complete (record_checks b longest_answer) ≡ false → let o = (result_of b).decomposition.outcome in (1 ≤ number o) × (number o ≡ 9 → ⊥)
  refused-number h = rw (refused-outcome b h) (refused-positive (record_checks b longest_answer) h, eqb-false (number (record_checks b longest_answer)) 9 (not-true _ (checks-early b longest_answer).number_is))
