-- Records without contract numbers are answered as before: the walk is the one from before, no number check is made, and the run has no numbers.
use mathlib.Core.Path.{◌≡◌, refl, sym, ap, ◌∙◌}
use mathlib.Core.List.{List, []}
use mathlib.Core.Bool.{true, false}
use Prim.Native.Nat.{ℕ, ◌+◌, ◌≤◌}
use native.Mathlib.Omega.{arith}
use lib.ListN.{length, get_or}
use lib.Dec.{eqb}
use borrow.Author.Tests.{ne_eqb, le-ltb}
use Rattle.arithmetic.specs.Loop.{range, times}
use Rattle.std.specs.Prelude.{Ok, Err, Option, None}
use Rattle.arithmetic.specs.Outcome.{complete, ◌then◌, Outcome}
use Rattle.arithmetic.proofs.Cases.{is, holds, fails}
use Rattle.matrix.specs.Checks.{check_size, check_symmetric}
use Rattle.matrix.proofs.CheckLaws.{Accepted, both_accepted}
use Rattle.methods.specs.Calls.{check_method}
use Rattle.encoding.specs.Bytes.{numbers}
use Rattle.encoding.specs.Checks.{check_entries}
use Rattle.encoding.proofs.ContractNumbers.{numbers-none}
use Rattle.answer_record.specs.AnswerRecord.{longest_answer}
use Rattle.record.specs.Cursor.{nothing_due, noted, part_at, cut, content_at, optional_content, pass_field, walk, walk_start}
use Rattle.record.specs.MatrixRecord.{request, contracts_of, entries_of, numbers_of, matrix_of, longest_record, check_record, request_checks, record_checks}
use Rattle.record.specs.Record.{result_of, answer, record_call}
use Rattle.record.specs.declared.cursor.Cursor.{Cursor}
use Rattle.record.specs.declared.cursor.Part.{Part}
use Rattle.record.specs.declared.cursor.Stage.TheVariants.{MethodDue, NumbersOrEntriesDue, EntriesDue, Done, PastEnd}
use Rattle.record.specs.declared.read.Request.{Request}
use Rattle.record.proofs.Walk.{step-stops, step-passes}
use Rattle.whole_calls.specs.BrokenRecords.{tag_at, checks_of_content, content_result}
use Rattle.whole_calls.specs.AsBefore.{after_before, pass_before, walk_before, request_before, entries_before, form_before, checks_before, result_before, AsBeforeTheorem}
use Rattle.whole_calls.proofs.Reading.{then_nothing}
use Rattle.whole_calls.proofs.Walked.{one, two, three, stops_one, stops_two, stops_three, third_starts, Passed, met, passes, cut_off, other_tag, Rest, entries-alone, numbers-first}
use Rattle.whole_calls.proofs.MatrixRecord.{accepted_whole}

-- ---- one step
module _ (b : List ℕ) (k : ℕ) (c : Cursor) where
  before_stays : nothing_due c.stage ≡ true → pass_before b k c ≡ c
  unfolding pass_before
  before_stays h = rw h

  before_stops : nothing_due c.stage ≡ false → cut b c.at ≡ true → pass_before b k c ≡ record { at = c.at; stage = PastEnd k; parts = c.parts }
  unfolding pass_before
  before_stops h e = rw (h, e)

  before_passes : nothing_due c.stage ≡ false → cut b c.at ≡ false
      → let part = part_at b c.at in let tag = get_or b c.at 0 in
      pass_before b k c ≡ record { at = part.start + part.len; stage = after_before k c.stage tag; parts = noted tag part c.parts }
  unfolding pass_before
  before_passes h e = rw (h, e)

module _ (b : List ℕ) where
  before_steps : walk_before b ≡ pass_before b 2 (pass_before b 1 (pass_before b 0 walk_start))
  unfolding walk_before range times
  before_steps = refl

  first-same : pass_before b 0 walk_start ≡ one b
  unfolding pass_before pass_field
  first-same = refl

  -- where the walk stopped at field 0, and at field 1
  stopped-one : nothing_due (one b).stage ≡ true → walk_before b ≡ walk b
  stopped-one h =
      before_steps ∙ ap (λ (c : Cursor). pass_before b 2 (pass_before b 1 c)) first-same
      ∙ ap (pass_before b 2) (before_stays b 1 (one b) h) ∙ before_stays b 2 (one b) h ∙ sym (stops_one b h)

  stopped-two : pass_before b 1 (one b) ≡ two b → nothing_due (two b).stage ≡ true → walk_before b ≡ walk b
  stopped-two e h =
      before_steps ∙ ap (λ (c : Cursor). pass_before b 2 (pass_before b 1 c)) first-same
      ∙ ap (pass_before b 2) e ∙ before_stays b 2 (two b) h ∙ sym (stops_two b h)

  -- ---- where 01 and 02 stand, and no 04 after them
  module _ (F : Passed b 0 walk_start 0x01 MethodDue) (S : Passed b 1 (one b) 0x02 NumbersOrEntriesDue) (other : tag_at b 2 ≡ 0x04 → ⊥) where
    one-stage : (one b).stage ≡ MethodDue
    one-stage = ap (λ (c : Cursor). c.stage) F.leads

    two-stage : (two b).stage ≡ NumbersOrEntriesDue
    two-stage = ap (λ (c : Cursor). c.stage) S.leads

    abbrev two_before : Cursor
    two_before = record { at = (two b).at; stage = EntriesDue; parts = (two b).parts }

    second-same : pass_before b 1 (one b) ≡ two_before
    second-same = before_passes b 1 (one b) (rw one-stage refl) S.whole ∙ rw (S.leads, one-stage, S.tagged)

    no_numbers : eqb (get_or b (two b).at 0) 0x04 ≡ false
    no_numbers = ne_eqb (get_or b (two b).at 0) 0x04 (λ e. other (ap (λ (at : ℕ). get_or b at 0) (sym (third_starts b F S)) ∙ e))

    third_same : pass_before b 2 two_before ≡ three b
    third_same = elim (is (cut b (two b).at)) [
      | holds t ↦ before_stops b 2 two_before refl t ∙ sym (step-stops b 2 (two b) (rw two-stage refl) t)
      | fails t ↦ before_passes b 2 two_before refl t ∙ sym (step-passes b 2 (two b) (rw two-stage refl) t ∙ rw (two-stage, no_numbers))
    ]

    third_ends : nothing_due (three b).stage ≡ true
    third_ends = elim (met b 2 (two b) 0x03 Done (rw two-stage refl) (rw (two-stage, no_numbers) refl)) [
      | passes D ↦ ap (λ (c : Cursor). nothing_due c.stage) D.leads
      | cut_off t g ↦ ap nothing_due g
      | other_tag t n found g ↦ ap nothing_due g
    ]

    all_same : walk_before b ≡ walk b
    all_same =
        before_steps ∙ ap (λ (c : Cursor). pass_before b 2 (pass_before b 1 c)) first-same
        ∙ ap (pass_before b 2) second-same ∙ third_same ∙ sym (stops_three b third_ends)

  walk_same : (tag_at b 2 ≡ 0x04 → ⊥) → walk_before b ≡ walk b
  walk_same other = elim (met b 0 walk_start 0x01 MethodDue refl refl) [
    | cut_off t g ↦ stopped-one (ap nothing_due g)
    | other_tag t n found g ↦ stopped-one (ap nothing_due g)
    | passes F ↦
        let s : (one b).stage ≡ MethodDue = ap (λ (c : Cursor). c.stage) F.leads in
        elim (met b 1 (one b) 0x02 NumbersOrEntriesDue (rw s refl) (rw s refl)) [
          | cut_off t g ↦ stopped-two (before_stops b 1 (one b) (rw s refl) t ∙ sym (step-stops b 1 (one b) (rw s refl) t)) (ap nothing_due g)
          | other_tag t n found g ↦
              let e = ne_eqb (get_or b (one b).at 0) 0x02 n in
              stopped-two (before_passes b 1 (one b) (rw s refl) t ∙ sym (step-passes b 1 (one b) (rw s refl) t ∙ rw (s, e))) (ap nothing_due g)
          | passes S ↦ all_same F S other
        ]
  ]

-- ---- the checks
then_assoc : (o p q : Outcome) → (o then p then q) ≡ (o then (p then q))
then_assoc (Ok _) p q = refl
then_assoc (Err r) p q = refl

-- what is checked after a form that passes
same_after : (o p q : Outcome) → (Accepted o → p ≡ q) → (o then p) ≡ (o then q)
same_after (Ok _) p q f = f (record { is = refl })
same_after (Err r) p q f = refl

module _ (b : List ℕ) (h : length b ≤ 18443) (other : tag_at b 2 ≡ 0x04 → ⊥) where
  abbrev form : Outcome
  form = check_record (length b) (walk b)

  request-same : request_before b ≡ request b
  unfolding request
  request-same = rw (walk_same b other)

  -- a record whose form passes has no field 04
  unnumbered : Accepted form → (request b).numbers ≡ None
  unfolding request
  unnumbered A = let W = accepted_whole b A in go W.first W.second W.rest
    where
      go : Passed b 0 walk_start 0x01 MethodDue → Passed b 1 (one b) 0x02 NumbersOrEntriesDue → Rest b → (walk b).parts.numbers ≡ None
      go F S (entries-alone D) = ap (λ (c : Cursor). c.parts.numbers) (stops_three b (ap (λ (c : Cursor). nothing_due c.stage) D.leads) ∙ D.leads)
          ∙ ap (λ (c : Cursor). c.parts.numbers) S.leads ∙ ap (λ (c : Cursor). c.parts.numbers) F.leads
      go F S (numbers-first N D) = absurd (other (ap (λ (at : ℕ). get_or b at 0) (sym (third_starts b F S)) ∙ N.tagged))

  without_numbers : Accepted form → numbers_of b ≡ []
  unfolding request
  without_numbers A = ap (λ (p : Option Part). numbers (optional_content b p)) (unnumbered A) ∙ numbers-none

  form_same : form_before b ≡ form
  form_same = rw (walk_same b other, le-ltb 18443 (length b) h, le-ltb longest_record (length b) (omega (arith, h)))

  -- where the form is refused, and where it passes
  abbrev content : ℕ → Outcome
  content room = checks_of_content (request b).size (request b).method (entries_of b) room

  before_is : (room : ℕ) → checks_before b room ≡ (form then content room)
  before_is room =
      ap (λ (o : Outcome). o then checks_of_content (request_before b).size (request_before b).method (entries_before b) room) form_same
      ∙ ap (λ (r : Request). form then checks_of_content r.size r.method (content_at b r.entries) room) request-same

  content-is : (room : ℕ) → Accepted form → (request_checks (request b) room (contracts_of b) (entries_of b) then check_symmetric (request b).size (matrix_of b)) ≡ content room
  content-is room A = rw (unnumbered A, then_nothing (check_method (request b).method then check_size (request b).size then check_entries (request b).size (length (entries_of b))))

  checks-same : (room : ℕ) → record_checks b room ≡ checks_before b room
  checks-same room =
      let rest = request_checks (request b) room (contracts_of b) (entries_of b) in
      let last = check_symmetric (request b).size (matrix_of b) in
      then_assoc form rest last ∙ same_after form (rest then last) (content room) (content-is room) ∙ sym (before_is room)

  form_passed : (room : ℕ) → Accepted (record_checks b room) → Accepted form
  form_passed room A = (both_accepted _ _ (both_accepted _ _ A).0).0

  result-before : result_before b ≡ content_result (record_checks b longest_answer) (request b).size (request b).method [] (entries_of b)
  result-before =
      ap (λ (o : Outcome). content_result o (request_before b).size (request_before b).method [] (entries_before b)) (sym (checks-same longest_answer))
      ∙ ap (λ (r : Request). content_result (record_checks b longest_answer) r.size r.method [] (content_at b r.entries)) request-same

  result-same : result_of b ≡ result_before b
  unfolding result_of
  result-same = elim (is (complete (record_checks b longest_answer))) [
    | holds e ↦ rw (result-before, e, without_numbers (form_passed longest_answer (record { is = e })))
    | fails e ↦ rw (result-before, e)
  ]

pub as_before : AsBeforeTheorem
unfolding record_call answer
as_before b out h other = rw (result-same b h other, checks-same b h other (length out))
