-- What is broken in a record (document 02, N1 and N2): when the record call hands back 10, 11 or 1, of every list of bytes and every
-- buffer lent for the answer, said by the record's bytes alone; and by what every other record is judged. Proved as `broken_records`
-- (proofs/BrokenRecords.antt), `whole-records` and `whole-numbered_records` (proofs/Reading.antt). That nothing changed for records
-- without a field 04 is specs/AsBefore.antt.
use Rattle.std.specs.Prelude.{◌≡◌, Bool, false, cond, ◌||◌, List, [], ◌∷◌, ◌⊎◌, ◌↔◌, ℕ, zero, suc, ◌+◌, ◌*◌, ◌≤◌, ◌<◌, eqb, length, get_or, Err}
use Rattle.arithmetic.specs.Outcome.{number, complete, ◌then◌, Outcome}
use Rattle.arithmetic.specs.declared.refusal.Refusal.TheVariants.{MalformedRecord, FieldPastEnd, TagNotDue}
use Rattle.matrix.specs.Checks.{check_size, check_buffer, check_finite, check_symmetric}
use Rattle.matrix.specs.Plain.{AllBelow}
use Rattle.methods.specs.Result.{Result}
use Rattle.methods.specs.Factor.{factor, tolerances}
use Rattle.methods.specs.Calls.{check_method, method_of}
use Rattle.encoding.specs.Bytes.{numbers, doubles}
use Rattle.encoding.specs.Checks.{check_entries, number_byte_checks}
use Rattle.answer_record.specs.AnswerRecord.{longest_answer}
use Rattle.record.specs.MatrixRecord.{matrix_record, numbered_record, request, numbered, contracts_of, entries_of, longest_record, record_checks}
use Rattle.record.specs.Record.{refused, result_of, record_call}

-- ---- fields by their own lengths: a tag, two bytes of length, low byte first, and the content
abbrev pub length_at : List ℕ → ℕ → ℕ
length_at b at = get_or b (at + 1) 0 + 256 * get_or b (at + 2) 0

-- a field starts where the one before it ends
abbrev pub field_start : List ℕ → ℕ → ℕ
field_start b zero = 0
field_start b (suc i) = field_start b i + 3 + length_at b (field_start b i)

-- its header or its content runs past the end; a header has three bytes, so one that is cut does, whatever is read as its length
abbrev pub RunsPastEnd : List ℕ → ℕ → Type 0
RunsPastEnd b i = length b < field_start b (suc i)

abbrev pub tag_at : List ℕ → ℕ → ℕ
tag_at b i = get_or b (field_start b i) 0

-- the tags due are 01, 02 and 03, and where field 2 has the tag 04, they are 01, 02, 04 and 03
abbrev pub tags_due : List ℕ → List ℕ
tags_due b = 0x01 ∷ 0x02 ∷ cond (eqb (tag_at b 2) 0x04) (0x04 ∷ 0x03 ∷ []) (0x03 ∷ [])

abbrev pub fields_due : List ℕ → ℕ
fields_due b = length (tags_due b)

abbrev pub HasTagDue : List ℕ → ℕ → Type 0
HasTagDue b i = tag_at b i ≡ get_or (tags_due b) i 0

-- it stands whole, with the tag due
abbrev pub Stands : List ℕ → ℕ → Type 0
Stands b i = (field_start b (suc i) ≤ length b) × HasTagDue b i

-- it is due, and those before it stand
abbrev pub Reached : List ℕ → ℕ → Type 0
Reached b i = (i < fields_due b) × ((k : ℕ) → k < i → Stands b k)

-- ---- the three faults
abbrev pub PastEndAt : List ℕ → ℕ → Type 0
PastEndAt b i = Reached b i × RunsPastEnd b i

abbrev pub WrongTagAt : List ℕ → ℕ → Type 0
WrongTagAt b i = Reached b i × (field_start b (suc i) ≤ length b) × (HasTagDue b i → ⊥)

-- all fields due stand
abbrev pub AllStand : List ℕ → Type 0
AllStand b = (k : ℕ) → k < fields_due b → Stands b k

-- 01 and 02 have one byte each, and nothing follows 03
abbrev pub RightLengths : List ℕ → Type 0
RightLengths b = (length_at b (field_start b 0) ≡ 1) × (length_at b (field_start b 1) ≡ 1) × (field_start b (fields_due b) ≡ length b)

abbrev pub Malformed : List ℕ → Type 0
Malformed b = (longest_record < length b) ⊎ (AllStand b × (RightLengths b → ⊥))

-- ---- what the call hands back
abbrev pub handed_back : List ℕ → List ℕ → Outcome
handed_back b out = (record_call b out).handed.outcome

abbrev pub is_broken : Outcome → Bool
is_broken o = eqb (number o) 1 || (eqb (number o) 10 || eqb (number o) 11)

-- the record of what b's request holds: of document 01's form, or with contract numbers
abbrev pub own_record : List ℕ → List ℕ
own_record b =
    let r = request b in
    cond (numbered r) (numbered_record r.size r.method (contracts_of b) (entries_of b)) (matrix_record r.size r.method (entries_of b))

pub record BrokenRecord (b out : List ℕ) : Type 0 where
  pub past_end : length b ≤ longest_record → (i : ℕ) → handed_back b out ≡ Err (FieldPastEnd i) ↔ PastEndAt b i
  pub wrong_tag : length b ≤ longest_record → (i : ℕ) → handed_back b out ≡ Err (TagNotDue i) ↔ WrongTagAt b i
  pub malformed : handed_back b out ≡ Err MalformedRecord ↔ Malformed b
  -- every other list of bytes is a record of one of the two forms
  pub otherwise : AllBelow 256 b → is_broken (handed_back b out) ≡ false ↔ ((length b ≤ longest_record) × (b ≡ own_record b))

abbrev pub BrokenRecordsTheorem : Type 0
BrokenRecordsTheorem = (b out : List ℕ) → BrokenRecord b out

-- ---- a record of document 01's form is judged by what it holds, as document 01 has it: 2, 3, 4, 5, 7, 8, then its run
abbrev pub checks_of_content : ℕ → ℕ → List ℕ → ℕ → Outcome
checks_of_content n method entries room =
    check_method method then check_size n then check_entries n (length entries) then check_buffer longest_answer room then check_finite n (doubles entries) then check_symmetric n (doubles entries)

-- .. and one with contract numbers by 2, 3, 4, 12, 13, 5, 7, 8
abbrev pub numbered_checks : ℕ → ℕ → List ℕ → List ℕ → ℕ → Outcome
numbered_checks n method contracts entries room =
    check_method method then check_size n then check_entries n (length entries) then number_byte_checks n contracts then check_buffer longest_answer room
    then check_finite n (doubles entries) then check_symmetric n (doubles entries)

-- an empty list where contracts have no numbers
abbrev pub content_result : Outcome → ℕ → ℕ → List ℕ → List ℕ → Result
content_result checks n method contractNumbers entries = cond (complete checks) (factor (method_of method) tolerances contractNumbers n (doubles entries)) (refused checks)

pub record WholeRecord (n method : ℕ) (entries : List ℕ) : Type 0 where
  pub checks_are : (room : ℕ) → record_checks (matrix_record n method entries) room ≡ checks_of_content n method entries room
  pub result_is : result_of (matrix_record n method entries) ≡ content_result (checks_of_content n method entries longest_answer) n method [] entries

abbrev pub WholeRecordsTheorem : Type 0
WholeRecordsTheorem = (n method : ℕ) (entries : List ℕ) → length (matrix_record n method entries) ≤ longest_record → WholeRecord n method entries

pub record WholeNumberedRecord (n method : ℕ) (contracts entries : List ℕ) : Type 0 where
  pub checks_are : (room : ℕ) → record_checks (numbered_record n method contracts entries) room ≡ numbered_checks n method contracts entries room
  pub result_is : result_of (numbered_record n method contracts entries) ≡ content_result (numbered_checks n method contracts entries longest_answer) n method (numbers contracts) entries

abbrev pub WholeNumberedRecordsTheorem : Type 0
WholeNumberedRecordsTheorem = (n method : ℕ) (contracts entries : List ℕ) → length (numbered_record n method contracts entries) ≤ longest_record → WholeNumberedRecord n method contracts entries
