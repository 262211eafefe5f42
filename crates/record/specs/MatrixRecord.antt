-- What a matrix record means: the request that a walk over its fields finds, then the checks 1, 10 and 11 of its form, and 2, 3, 4, 12, 13, 5, 7 and 8.
use Rattle.std.specs.Prelude.{List, [], ◌∷◌, ◌++◌, Bool, cond, not, ◌&&◌, ℕ, length, get_or, eqb, ltb, Float}
use Rattle.std.specs.Prelude.{Ok, Err}
use Rattle.std.specs.Option.{is_some}
use Rattle.arithmetic.specs.Outcome.{Outcome, refuse, ◌then◌}
use Rattle.arithmetic.specs.declared.refusal.Refusal.TheVariants.{MalformedRecord, FieldPastEnd, TagNotDue}
use Rattle.matrix.specs.Checks.{check_size, check_buffer, check_finite, check_symmetric}
use Rattle.methods.specs.Calls.{check_method}
use Rattle.encoding.specs.Bytes.{bytes, numbers, doubles}
use Rattle.answer_record.specs.Field.{field}
use Rattle.encoding.specs.Checks.{check_entries, number_byte_checks}
use Rattle.answer_record.specs.AnswerRecord.{longest_answer}
use Rattle.record.specs.Cursor.{content_at, optional_content, walk}
use Rattle.record.specs.declared.cursor.Cursor.{Cursor}
use Rattle.record.specs.declared.cursor.Stage.{Stage}
use Rattle.record.specs.declared.cursor.Stage.TheVariants.{SizeDue, MethodDue, NumbersOrEntriesDue, EntriesDue, Done, PastEnd, WrongTag}
use Rattle.record.specs.declared.read.Request.{Request}

-- 01 n, 02 method, 03 entries
unfoldable pub matrix_record : ℕ → ℕ → List ℕ → List ℕ
unfolding bytes
matrix_record n method entries = field 0x01 (n ∷ []) ++ field 0x02 (method ∷ []) ++ field 0x03 entries

-- .. and, before the entries, 04 the contracts' numbers
unfoldable pub numbered_record : ℕ → ℕ → List ℕ → List ℕ → List ℕ
unfolding bytes
numbered_record n method contracts entries = field 0x01 (n ∷ []) ++ field 0x02 (method ∷ []) ++ field 0x04 contracts ++ field 0x03 entries

-- ---- what a walk over b found
abbrev pub request_of : List ℕ → Cursor → Request
request_of b c = record {
  size = get_or b c.parts.size.start 0;
  method = get_or b c.parts.method.start 0;
  numbers = c.parts.numbers;
  entries = c.parts.entries;
}

unfoldable pub request : List ℕ → Request
unfolding walk
request b = request_of b (walk b)

-- the bytes of field 04, none where there is no such field
abbrev pub contracts_of : List ℕ → List ℕ
contracts_of b = optional_content b (request b).numbers

abbrev pub entries_of : List ℕ → List ℕ
entries_of b = content_at b (request b).entries

abbrev pub numbers_of : List ℕ → List ℕ
numbers_of b = numbers (contracts_of b)

abbrev pub matrix_of : List ℕ → List Float
matrix_of b = doubles (entries_of b)

-- ---- 1: too long; 10 or 11: the walk's first offending field; 1: a wrong length of 01 or 02, or bytes after the last field
abbrev pub longest_record : ℕ
longest_record = 18638

abbrev pub check_longest : ℕ → Outcome
check_longest len = refuse (ltb longest_record len) MalformedRecord

-- of a walk that has ended, as every one has: no walk stops where a field is due (whole_calls, `Walk-Ends`)
abbrev pub check_walk : Stage → Outcome
check_walk SizeDue = Err MalformedRecord
check_walk MethodDue = Err MalformedRecord
check_walk NumbersOrEntriesDue = Err MalformedRecord
check_walk EntriesDue = Err MalformedRecord
check_walk Done = Ok tt
check_walk (PastEnd field) = Err (FieldPastEnd field)
check_walk (WrongTag field found) = Err (TagNotDue field)

abbrev pub exact : Cursor → ℕ → Bool
exact c len = eqb c.parts.size.len 1 && (eqb c.parts.method.len 1 && eqb c.at len)

abbrev pub check_exact : Cursor → ℕ → Outcome
check_exact c len = refuse (not (exact c len)) MalformedRecord

abbrev pub check_record : ℕ → Cursor → Outcome
check_record len c = check_longest len then check_walk c.stage then check_exact c len

-- whether it has contract numbers
abbrev pub numbered : Request → Bool
numbered r = is_some r.numbers

-- ---- 12, 13: where there is a field 04, on its bytes
abbrev pub request_number_checks : Request → List ℕ → Outcome
request_number_checks r contracts = cond (numbered r) (number_byte_checks r.size contracts) (Ok tt)

-- 2, 3, 4, on the length of the entries in bytes
abbrev pub request_size_checks : Request → ℕ → Outcome
request_size_checks r entries = check_method r.method then check_size r.size then check_entries r.size entries

-- ---- 2, 3, 4, 12, 13, 5 and 7, of a request, the length of the buffer lent for its answer, and the bytes of its contract numbers and entries
abbrev pub request_checks : Request → ℕ → List ℕ → List ℕ → Outcome
request_checks r room contracts entries =
    request_size_checks r (length entries) then request_number_checks r contracts then check_buffer longest_answer room then check_finite r.size (doubles entries)

-- ---- 1, 10, 11, 2, 3, 4, 12, 13, 5, 7: what is checked on bytes, with a buffer of `room` bytes for the answer; then 8
abbrev pub byte_checks : List ℕ → ℕ → Outcome
byte_checks b room = check_record (length b) (walk b) then request_checks (request b) room (contracts_of b) (entries_of b)

abbrev pub record_checks : List ℕ → ℕ → Outcome
record_checks b room = byte_checks b room then check_symmetric (request b).size (matrix_of b)
