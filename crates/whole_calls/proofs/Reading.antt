-- A record of document 01's form, and one with contract numbers, is judged by what it holds. Proves specs/BrokenRecords.antt's `WholeRecordsTheorem` and `WholeNumberedRecordsTheorem`.
use mathlib.Core.Path.{◌≡◌, refl, sym, ap, ◌∙◌}
use mathlib.Core.List.{List, []}
use mathlib.Core.Bool.{true, false}
use Prim.Native.Nat.{ℕ, ◌≤◌, ◌<◌}
use native.Mathlib.Omega.{arith}
use lib.ListN.{length}
use Rattle.arithmetic.specs.Outcome.{◌then◌, Outcome}
use Rattle.std.specs.Prelude.{Ok, Err, None}
use Rattle.std.specs.Option.{is_some}
use Rattle.answer_record.specs.AnswerRecord.{longest_answer}
use Rattle.matrix.specs.Checks.{check_size}
use Rattle.matrix.proofs.CheckLaws.{Accepted, goes_on}
use Rattle.methods.specs.Calls.{check_method}
use Rattle.encoding.specs.Bytes.{numbers}
use Rattle.encoding.proofs.ContractNumbers.{numbers-none}
use Rattle.encoding.specs.Checks.{check_entries}
use Rattle.record.specs.Cursor.{content_at, optional_content, walk}
use Rattle.record.specs.MatrixRecord.{matrix_record, numbered_record, request, contracts_of, entries_of, numbers_of, longest_record, check_record, request_checks, byte_checks, record_checks}
use Rattle.record.specs.Record.{result_of}
use Rattle.record.specs.declared.read.Request.{Request}
use Rattle.whole_calls.specs.BrokenRecords.{checks_of_content, numbered_checks, content_result, WholeRecordsTheorem, WholeNumberedRecordsTheorem}
use Rattle.whole_calls.proofs.MatrixRecord.{record_length, record_request, record_entries, record_well_formed, numbered_length, numbered_request, numbered_request_lem, numbered_contracts, numbered_entries, numbered_well_formed}

-- a check that isn't made
pub then_nothing : (o : Outcome) → (o then Ok tt) ≡ o
then_nothing (Ok tt) = refl
then_nothing (Err r) = refl

-- where a record's form passes, its request decides
content-left : (b : List ℕ) (room : ℕ) → Accepted (check_record (length b) (walk b)) → byte_checks b room ≡ request_checks (request b) room (contracts_of b) (entries_of b)
content-left b room A = sym (goes_on A refl)

-- ---- the record of n, a method and entries
module _ (n method : ℕ) (entries : List ℕ) (h : length (matrix_record n method entries) ≤ longest_record) where
  short : length entries < 65536
  short = omega (arith, record_length n method entries)

  size_is : (request (matrix_record n method entries)).size ≡ n
  size_is = ap (λ (r : Request). r.size) (record_request n method entries short)

  method_is : (request (matrix_record n method entries)).method ≡ method
  method_is = ap (λ (r : Request). r.method) (record_request n method entries short)

  unnumbered : (request (matrix_record n method entries)).numbers ≡ None
  unnumbered = ap (λ (r : Request). r.numbers) (record_request n method entries short)

  without_numbers : numbers_of (matrix_record n method entries) ≡ []
  without_numbers = ap (λ (r : Request). numbers (optional_content (matrix_record n method entries) r.numbers)) (record_request n method entries short) ∙ numbers-none

  checks_are : (room : ℕ) → record_checks (matrix_record n method entries) room ≡ checks_of_content n method entries room
  checks_are room =
      rw (content-left (matrix_record n method entries) room (record_well_formed n method entries h), record_entries n method entries short, size_is, method_is, unnumbered, then_nothing (check_method method then check_size n then check_entries n (length entries)))

  result_is : result_of (matrix_record n method entries) ≡ content_result (checks_of_content n method entries longest_answer) n method [] entries
  unfolding result_of
  result_is = rw (checks_are longest_answer, without_numbers, record_entries n method entries short, size_is, method_is)

pub whole-records : WholeRecordsTheorem
whole-records n method entries h = record { checks_are = checks_are n method entries h; result_is = result_is n method entries h }

-- ---- .. with contract numbers
module _ (n method : ℕ) (contracts entries : List ℕ) (h : length (numbered_record n method contracts entries) ≤ longest_record) where
  abbrev b : List ℕ
  b = numbered_record n method contracts entries

  contracts-short : length contracts < 65536
  contracts-short = omega (arith, numbered_length n method contracts entries)

  entries-short : length entries < 65536
  entries-short = omega (arith, numbered_length n method contracts entries)

  parts_are : request b ≡ numbered_request n method contracts entries
  parts_are = numbered_request_lem n method contracts entries contracts-short entries-short

  numbered_size : (request b).size ≡ n
  numbered_size = ap (λ (r : Request). r.size) parts_are

  numbered_method : (request b).method ≡ method
  numbered_method = ap (λ (r : Request). r.method) parts_are

  numbered : is_some (request b).numbers ≡ true
  numbered = ap (λ (r : Request). is_some r.numbers) parts_are

  contracts-are : contracts_of b ≡ contracts
  contracts-are = numbered_contracts n method contracts entries contracts-short entries-short

  entries-are : entries_of b ≡ entries
  entries-are = numbered_entries n method contracts entries contracts-short entries-short

  numbered_checks_are : (room : ℕ) → record_checks b room ≡ numbered_checks n method contracts entries room
  numbered_checks_are room = rw (content-left b room (numbered_well_formed n method contracts entries h), contracts-are, entries-are, numbered_size, numbered_method, numbered)

  numbered_result_is : result_of b ≡ content_result (numbered_checks n method contracts entries longest_answer) n method (numbers contracts) entries
  unfolding result_of
  numbered_result_is = rw (numbered_checks_are longest_answer, contracts-are, entries-are, numbered_size, numbered_method)

pub whole-numbered_records : WholeNumberedRecordsTheorem
whole-numbered_records n method contracts entries h = record { checks_are = numbered_checks_are n method contracts entries h; result_is = numbered_result_is n method contracts entries h }
