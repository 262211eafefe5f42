-- Records without contract numbers are answered as before field 04 was known (document 02, N2): the record call, on every list of at most
-- 18,443 bytes whose third field has another tag than 04, hands back and writes to the bit what it did. Proved as `as_before`
-- (proofs/AsBefore.antt).
use Rattle.std.specs.Prelude.{◌≡◌, cond, List, [], ℕ, ◌+◌, ◌≤◌, eqb, ltb, length, get_or}
use Rattle.arithmetic.specs.Loop.{range}
use Rattle.arithmetic.specs.Outcome.{refuse, ◌then◌, Outcome}
use Rattle.arithmetic.specs.declared.refusal.Refusal.TheVariants.{MalformedRecord}
use Rattle.methods.specs.Result.{Result}
use Rattle.encoding.specs.Bytes.{low_first}
use Rattle.encoding.specs.Writing.{over}
use Rattle.answer_record.specs.AnswerRecord.{longest_answer, answer_record}
use Rattle.record.specs.Cursor.{expect, after, nothing_due, noted, part_at, cut, content_at, walk_start}
use Rattle.record.specs.MatrixRecord.{request_of, check_walk, check_exact}
use Rattle.record.specs.Record.{RecordCall, record_call_of, record_call}
use Rattle.record.specs.declared.cursor.Cursor.{Cursor}
use Rattle.record.specs.declared.cursor.Stage.{Stage}
use Rattle.record.specs.declared.cursor.Stage.TheVariants.{SizeDue, MethodDue, NumbersOrEntriesDue, EntriesDue, Done, PastEnd, WrongTag}
use Rattle.record.specs.declared.read.Request.{Request}
use Rattle.whole_calls.specs.BrokenRecords.{tag_at, checks_of_content, content_result}

-- ---- the walk: after 02 only 03 is due, and three fields are passed
abbrev pub after_before : ℕ → Stage → ℕ → Stage
after_before k SizeDue tag = after k SizeDue tag
after_before k MethodDue tag = expect k tag 0x02 EntriesDue
after_before k NumbersOrEntriesDue tag = after k NumbersOrEntriesDue tag
after_before k EntriesDue tag = after k EntriesDue tag
after_before k Done tag = Done
after_before k (PastEnd field) tag = PastEnd field
after_before k (WrongTag field found) tag = WrongTag field found

unfoldable pub pass_before : List ℕ → ℕ → Cursor → Cursor
unfolding low_first
pass_before b k c =
    let part = part_at b c.at in
    let tag = get_or b c.at 0 in
    cond (nothing_due c.stage) c
    (cond (cut b c.at) (record { at = c.at; stage = PastEnd k; parts = c.parts })
    (record { at = part.start + part.len; stage = after_before k c.stage tag; parts = noted tag part c.parts }))

unfoldable pub walk_before : List ℕ → Cursor
unfolding range pass_before
walk_before b = range 0 3 (pass_before b) walk_start

abbrev pub request_before : List ℕ → Request
request_before b = request_of b (walk_before b)

abbrev pub entries_before : List ℕ → List ℕ
entries_before b = content_at b (request_before b).entries

-- ---- 1 above 18,443 bytes, 10 or 11, 1; then 2, 3, 4, 5, 7, 8; then the run, without numbers
abbrev pub form_before : List ℕ → Outcome
form_before b = refuse (ltb 18443 (length b)) MalformedRecord then check_walk (walk_before b).stage then check_exact (walk_before b) (length b)

abbrev pub checks_before : List ℕ → ℕ → Outcome
checks_before b room = form_before b then checks_of_content (request_before b).size (request_before b).method (entries_before b) room

abbrev pub result_before : List ℕ → Result
result_before b = content_result (checks_before b longest_answer) (request_before b).size (request_before b).method [] (entries_before b)

abbrev pub call_before : List ℕ → List ℕ → RecordCall
call_before b out =
    let answer = answer_record (result_before b) in
    cond (eqb (length out) longest_answer)
    (record_call_of (result_before b).decomposition.outcome (length answer) (over out 0 answer))
    (record_call_of (checks_before b (length out)) 0 out)

abbrev pub AsBeforeTheorem : Type 0
AsBeforeTheorem = (b out : List ℕ) → length b ≤ 18443 → (tag_at b 2 ≡ 0x04 → ⊥) → record_call b out ≡ call_before b out
