-- A refusal before the first step is another than 9, where a record's form passes also than 1, 10 and 11, and its place's row and column have one byte each.
use mathlib.Core.Path.{◌≡◌, refl}
use mathlib.Core.List.{List}
use mathlib.Core.Bool.{Bool, true, not, ◌&&◌, ◌||◌}
use Prim.Native.Nat.{ℕ, ◌*◌, ◌/◌, ◌%◌, ◌≤◌, ◌<◌}
use native.Mathlib.Nat.{div-lt_iff_lt-mul, mod-lt}
use native.Mathlib.Omega.{arith}
use borrow.Author.Tests.{ltb-true}
use lib.ListN.{length}
use lib.Dec.{eqb, leb, ltb}
use Rattle.std.specs.Prelude.{Err}
use Rattle.arithmetic.specs.Outcome.{Outcome, number_of, number, place_of, place, refuse, ◌then◌}
use Rattle.arithmetic.specs.declared.refusal.Refusal.{Refusal}
use Rattle.arithmetic.proofs.OrderLaws.{and_1}
use Rattle.arithmetic.proofs.OutcomeLaws.{complete-is}
use Rattle.arithmetic.proofs.Cases.{is, holds, fails}
use Rattle.std.specs.Prelude.{Ok}
use Rattle.arithmetic.specs.declared.refusal.Refusal.TheVariants.{MalformedRecord, UnknownMethod, SizeOutOfRange, MatrixLength, BufferLength, NotFinite, Unsymmetric, NumbersLength, NumberRepeated}
use Rattle.matrix.specs.Checks.{check_size, check_buffer, check_finite, check_symmetric, first_not_finite, first_unsymmetric, first_repeated}
use Rattle.matrix.proofs.CheckLaws.{Accepted, both_accepted, then_keeps, refuse-keeps}
use Rattle.methods.specs.Calls.{check_method}
use Rattle.encoding.specs.Bytes.{numbers, doubles}
use Rattle.encoding.proofs.ContractNumbers.{numbers-length, number-bytes_accepted}
use Rattle.answer_record.specs.AnswerRecord.{longest_answer}
use Rattle.record.specs.Cursor.{walk}
use Rattle.encoding.specs.Checks.{check_entries}
use Rattle.record.specs.MatrixRecord.{request, numbered, contracts_of, entries_of, matrix_of, longest_record, check_walk, exact, check_record, request_number_checks, request_checks, byte_checks, record_checks}
use Rattle.answer_record.specs.Writing.{PlaceFits}
use Rattle.record.specs.declared.cursor.Cursor.{Cursor}
use Rattle.record.specs.declared.cursor.Stage.{Stage}
use Rattle.record.specs.declared.cursor.Stage.TheVariants.{SizeDue, MethodDue, NumbersOrEntriesDue, EntriesDue, Done, PastEnd, WrongTag}
use Rattle.record.specs.declared.read.Request.{Request}
use Rattle.record.proofs.Accepted.{Sized, sized, request-accepted}
use Rattle.record.proofs.Walk.{stopped_at, walk-at_most}

-- any number but the run's; and, of what a record holds, none of its form's either
abbrev pub before_run : ℕ → Bool
before_run k = not (eqb k 9)

abbrev pub of_content : ℕ → Bool
of_content k = before_run k && not (eqb k 1 || (eqb k 10 || eqb k 11))

pub record Early (among : ℕ → Bool) (o : Outcome) : Type 0 where
  pub number_is : among (number o) ≡ true
  pub placed : PlaceFits (place o)

weaker : {o : Outcome} → Early of_content o → Early before_run o
weaker {o} e = record { number_is = and_1 (before_run (number o)) _ e.number_is; placed = e.placed }

-- a refusal without a place
abbrev zeros : (0 < 256) × (0 < 256)
zeros = (omega arith, omega arith)

complete-early : Early of_content (Ok tt)
complete-early = record { number_is = refl; placed = zeros }

malformed-early : Early before_run (Err MalformedRecord)
malformed-early = record { number_is = refl; placed = zeros }

content-refusal : (bad : Bool) (refusal : Refusal) → of_content (number_of refusal) ≡ true → (bad ≡ true → PlaceFits (place_of refusal)) → Early of_content (refuse bad refusal)
content-refusal bad refusal h p = refuse-keeps (Early of_content) bad refusal complete-early (λ e. record { number_is = h; placed = p e })

cell_fits : (n k : ℕ) → 0 < n → n ≤ 48 → k < n * n → (k / n < 256) × (k % n < 256)
cell_fits n k some small h = (omega (arith, (div-lt_iff_lt-mul some).1 h), omega (arith, mod-lt k some))

walk-early : (s : Stage) → stopped_at s ≤ 3 → Early before_run (check_walk s)
walk-early SizeDue h = malformed-early
walk-early MethodDue h = malformed-early
walk-early NumbersOrEntriesDue h = malformed-early
walk-early EntriesDue h = malformed-early
walk-early Done h = weaker complete-early
walk-early (PastEnd field) h = record { number_is = refl; placed = (omega (arith, h), omega arith) }
walk-early (WrongTag field found) h = record { number_is = refl; placed = (omega (arith, h), omega arith) }

fields_early : (len : ℕ) (c : Cursor) → stopped_at c.stage ≤ 3 → Early before_run (check_record len c)
fields_early len c h =
    let malformed : (bad : Bool) → Early before_run (refuse bad MalformedRecord) = λ bad. refuse-keeps (Early before_run) bad MalformedRecord (weaker complete-early) (λ _. malformed-early) in
    then_keeps (Early before_run) _ _ (then_keeps (Early before_run) _ _ (malformed (ltb longest_record len)) (λ _. walk-early c.stage h)) (λ _. malformed (not (exact c len)))

module _ (r : Request) (room : ℕ) (contracts entries : List ℕ) where
  sizes_early : Early of_content (check_method r.method then check_size r.size then check_entries r.size (length entries))
  sizes_early =
      let n = r.size in
      then_keeps (Early of_content) _ _ (then_keeps (Early of_content) _ _ (content-refusal (not (leb 1 r.method && leb r.method 3)) UnknownMethod refl (λ _. zeros))
      (λ _. content-refusal (eqb n 0 || ltb 48 n) SizeOutOfRange refl (λ _. zeros)))
      (λ _. content-refusal (not (eqb (length entries) (8 * (n * n)))) MatrixLength refl (λ _. zeros))

  finite_early : Sized r entries → Early of_content (check_finite r.size (doubles entries))
  finite_early l =
      let n = r.size in
      let f = first_not_finite (doubles entries) in
      content-refusal (ltb f (length (doubles entries))) (NotFinite (f / n) (f % n)) refl
      (λ e. cell_fits n f l.some l.square.small (omega (arith, ltb-true f (length (doubles entries)) e, l.square.len)))

  pub symmetric-early : Sized r entries → Early of_content (check_symmetric r.size (doubles entries))
  symmetric-early l =
      let n = r.size in
      let f = first_unsymmetric n (doubles entries) in
      content-refusal (ltb f (n * n)) (Unsymmetric (f / n) (f % n)) refl (λ e. cell_fits n f l.some l.square.small (ltb-true f (n * n) e))

  lent-early : Early of_content (check_buffer longest_answer room)
  lent-early = content-refusal (not (eqb room longest_answer)) BufferLength refl (λ _. zeros)

  numbers-early : Sized r entries → Early of_content (request_number_checks r contracts)
  numbers-early l = elim (is (numbered r)) [
    | holds e ↦
        let n = r.size in
        let len = length contracts in
        let f = first_repeated (numbers contracts) in
        rw e (then_keeps (Early of_content) _ _ (content-refusal (not (eqb len (4 * n))) NumbersLength refl (λ _. zeros))
        (λ h. content-refusal (ltb f (length (numbers contracts))) (NumberRepeated f) refl
        (λ t. (omega (arith, ltb-true f (length (numbers contracts)) t, numbers-length contracts, number-bytes_accepted n len h, l.square.small), omega arith))))
    | fails e ↦ rw e complete-early
  ]

  request-early : Early of_content (request_checks r room contracts entries)
  request-early =
      then_keeps (Early of_content) _ _ (then_keeps (Early of_content) _ _ (then_keeps (Early of_content) _ _ sizes_early (λ h. numbers-early (sized r room contracts entries h)))
      (λ _. lent-early)) (λ h. finite_early (sized r room contracts entries (both_accepted _ _ (both_accepted _ _ h).0).0))

module _ (b : List ℕ) (room : ℕ) where
  pub bytes-early : Early before_run (byte_checks b room)
  bytes-early = then_keeps (Early before_run) _ _ (fields_early (length b) (walk b) (walk-at_most b)) (λ _. weaker (request-early (request b) room (contracts_of b) (entries_of b)))

  pub bytes-parts : Accepted (byte_checks b room) → Accepted (request_checks (request b) room (contracts_of b) (entries_of b))
  bytes-parts h = (both_accepted _ _ h).1

  last_early : Accepted (byte_checks b room) → Early of_content (check_symmetric (request b).size (matrix_of b))
  last_early h = symmetric-early (request b) room (contracts_of b) (entries_of b) (request-accepted (request b) room (contracts_of b) (entries_of b) (bytes-parts h)).0

  pub checks-early : Early before_run (record_checks b room)
  checks-early = then_keeps (Early before_run) _ _ bytes-early (λ h. weaker (last_early h))

  -- where its form passes
  pub content-early : Accepted (check_record (length b) (walk b)) → Early of_content (record_checks b room)
  content-early A =
      let form : Early of_content (check_record (length b) (walk b)) = rw (complete-is (check_record (length b) (walk b)) A.is) complete-early in
      then_keeps (Early of_content) _ _ (then_keeps (Early of_content) _ _ form (λ _. request-early (request b) room (contracts_of b) (entries_of b))) last_early
