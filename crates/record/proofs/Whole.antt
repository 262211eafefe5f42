-- The record call, from its checks, check 8 and the run.
use mathlib.Core.Path.{◌≡◌, refl, sym, ap, ◌∙◌}
use mathlib.Core.List.{List, []}
use mathlib.Core.Bool.{true, false, false≢true, true≢false}
use Prim.Native.Nat.{ℕ, ◌+◌, ◌*◌, ◌≤◌}
use native.Mathlib.Omega.{arith}
use borrow.Author.Tests.{eq-eqb, ne_eqb}
use lib.ListN.{length, get_or}
use lib.Seq.{length-take-le}
use lib.Dec.{T}
use lib.Ieee.{Float, nan, binary64, fits}
use Rattle.arithmetic.specs.Outcome.{complete, place, ◌then◌}
use Rattle.arithmetic.specs.Outcome.{Outcome}
use Rattle.matrix.specs.Checks.{check_symmetric}
use Rattle.matrix.proofs.CheckLaws.{Accepted, entries-accepted, symmetric-accepted}
use Rattle.arithmetic.proofs.Cases.{is, holds, fails}
use Rattle.methods.specs.Factor.{factor, tolerances}
use Rattle.methods.specs.Calls.{Call, call, answered, method_of, Operands}
use Rattle.methods.specs.declared.method.Method.{Method}
use Rattle.methods.specs.declared.decomposition.Decomposition.{Decomposition}
use Rattle.encoding.specs.Bytes.{numbers, doubles}
use Rattle.record.specs.Cursor.{content_at, optional_content, walk}
use Rattle.record.specs.MatrixRecord.{request_of, request, contracts_of, entries_of, check_record, request_checks, byte_checks}
use Rattle.answer_record.specs.AnswerRecord.{longest_answer, answer_record}
use Rattle.record.specs.Record.{refused, result_of, result_to, Lent, OwnContracts, request_call, answer, record_call_of, Answers, Counts, record_call}
use Rattle.answer_record.specs.Writing.{Front, MarksFit, PlaceFits, Fits, result_with}
use Rattle.record.specs.declared.cursor.Cursor.{Cursor}
use Rattle.record.specs.declared.cursor.Part.{Part}
use Rattle.record.specs.declared.read.Request.{Request}
use Rattle.std.specs.Prelude.{Option, None, Some}
use Rattle.std.specs.Option.{is_some}
use Rattle.record.proofs.Accepted.{request-accepted}
use Rattle.record.specs.declared.answer.RecordAnswer.{RecordAnswer}
use Rattle.record.proofs.Answers.{answer-request, bytes-refused, other_checks}
use Rattle.answer_record.proofs.WriteFields.{refused-alike}
use Rattle.encoding.proofs.Over.{length_over}
use Rattle.record.proofs.SoundFits.{request-fits, bytes_fit, answer-length_at_most}

-- ---- check 8, then the run
module _ (r : Request) (ns : List ℕ) (a l work e : List Float) (p : List ℕ) where
  pub lent-operands : Lent r.size a (length l) (length work) (length e) (length p) → ((k : ℕ) → T (fits binary64 (get_or a k nan))) → Accepted (check_symmetric r.size a)
      → Operands r.size a (length l) (length work) (length e) (length p)
  lent-operands L d h = record {
    some = L.some;
    square = L.square;
    finite_entries = L.finite_entries;
    symmetric = record { same = symmetric-accepted r.size a (λ i j p q. d (i * r.size + j)) h };
    l_is = L.l_is;
    work_is = L.work_is;
    e_is = L.e_is;
    p_is = L.p_is;
  }

  pub request-refused : (d : Decomposition) → complete (check_symmetric r.size a) ≡ false → d ≡ (refused (check_symmetric r.size a)).decomposition → call d l work e p ≡ request_call r ns a l work e p
  unfolding request_call
  request-refused d h e = rw (h, e)

  pub request-ran : (method : Method) (x : Call) → Accepted (check_symmetric r.size a) → method ≡ method_of r.method → x ≡ answered r.size (factor method tolerances ns r.size a) → x ≡ request_call r ns a l work e p
  unfolding request_call
  request-ran method x h em ex = ex ∙ rw (em, h.is)

-- what is lent to them
pub lends : (r : Request) (room : ℕ) (contracts entries : List ℕ) (a : List Float) (l work e p : ℕ) → Accepted (request_checks r room contracts entries) → a ≡ doubles entries
    → l ≡ r.size * r.size → work ≡ r.size * r.size → e ≡ r.size → p ≡ r.size → Lent r.size a l work e p
lends r room contracts entries a l work e p h reads el ew ee ep =
    let A = request-accepted r room contracts entries h in
    rw reads (record { some = A.0.some; square = A.0.square; finite_entries = entries-accepted r.size (doubles entries) A.0.square A.1; l_is = el; work_is = ew; e_is = ee; p_is = ep })

-- ---- check 8 and the run, on lent buffers, give the result
module _ (r : Request) (contracts entries ns : List ℕ) (a l work e : List Float) (p : List ℕ) (d : Decomposition) (l' work' e' : List Float) (p' : List ℕ)
    (counts : ns ≡ numbers contracts) (reads : a ≡ doubles entries) (calls : call d l' work' e' p' ≡ request_call r ns a l work e p) where
  calls_it : call d l' work' e' p' ≡ request_call r (numbers contracts) (doubles entries) l work e p
  calls_it = rw (reads, counts) at calls

  decomposition-is : d ≡ (result_to r contracts entries).decomposition
  unfolding result_to request_call
  decomposition-is = elim (is (complete (check_symmetric r.size (doubles entries)))) [
    | holds c ↦ ap (λ (x : Call). x.decomposition) calls_it ∙ rw c
    | fails c ↦ ap (λ (x : Call). x.decomposition) calls_it ∙ rw c
  ]

  result_is : complete d.outcome ≡ true → result_with d l' e' p' ≡ result_to r contracts entries
  unfolding result_to request_call
  result_is o = elim (is (complete (check_symmetric r.size (doubles entries)))) [
    | holds c ↦ ap (λ (x : Call). result_with x.decomposition x.l x.e x.p) calls_it ∙ rw c
    | fails c ↦ absurd (false≢true (sym c ∙ (rw (decomposition-is, c) at o)))
  ]

  module _ (room : ℕ) (h : Accepted (request_checks r room contracts entries)) where
    pub complete-fits : complete d.outcome ≡ true → Fits (result_with d l' e' p')
    complete-fits o = rw (result_is o) (request-fits r room contracts entries h)

    pub refused-fits : MarksFit d × PlaceFits (place d.outcome)
    refused-fits = let f = request-fits r room contracts entries h in (rw decomposition-is f.marks, rw decomposition-is f.placed)

  module _ (out out' : List ℕ) (len : ℕ) where
    pub complete-answers : complete d.outcome ≡ true → Front (answer_record (result_with d l' e' p')) out out' len → Answers (result_to r contracts entries) out out' (record { outcome = d.outcome; len = len })
    complete-answers o w = record { front = rw (← result_is o) w; outcome_is = ap (λ (x : Decomposition). x.outcome) decomposition-is }

    pub refused-answers : complete d.outcome ≡ false → Front (answer_record (result_with d [] [] [])) out out' len → Answers (result_to r contracts entries) out out' (record { outcome = d.outcome; len = len })
    refused-answers o w =
        let t = result_to r contracts entries in
        let e : answer_record (result_with d [] [] []) ≡ answer_record t = rw decomposition-is (refused-alike t.decomposition [] t.l [] t.e [] t.p (rw decomposition-is at o)) in
        record { front = rw (← e) w; outcome_is = ap (λ (x : Decomposition). x.outcome) decomposition-is }

-- ---- what is read off a walk over b
module _ (b : List ℕ) (c : Cursor) (r : Request) (contracts entries : List ℕ) (walks : c ≡ walk b) (reads : r ≡ request_of b c) (numbers-part : contracts ≡ optional_content b r.numbers) (entries-part : entries ≡ content_at b r.entries) where
  pub request-read : r ≡ request b
  unfolding request
  request-read = reads ∙ rw walks

  pub entries-read : entries ≡ entries_of b
  entries-read = entries-part ∙ rw request-read

  pub contracts-read : contracts ≡ contracts_of b
  contracts-read = numbers-part ∙ rw request-read

  pub contracts-own : OwnContracts r contracts
  contracts-own h = ap length numbers-part ∙ none r.numbers h
    where
      none : (part : Option Part) → is_some part ≡ false → length (optional_content b part) ≡ 0
      none None h = refl
      none (Some part) h = absurd (true≢false h)

  pub checks-made : (room : ℕ) (first rest o : Outcome) → first ≡ check_record (length b) c → rest ≡ request_checks r room contracts entries → o ≡ (first then rest) → o ≡ byte_checks b room
  checks-made room first rest o ef er eo = eo ∙ rw (ef, er, walks, entries-read, contracts-read, request-read)

  pub request-answers : complete (byte_checks b longest_answer) ≡ true → (out out' : List ℕ) (x : RecordAnswer) → Answers (result_to r contracts entries) out out' x → Answers (result_of b) out out' x
  request-answers h out out' x w = rw (answer-request b h) (rw (entries-read, contracts-read, request-read) at w)

-- ---- the checks on bytes decide
module _ (b : List ℕ) where
  pub bytes-fits : complete (byte_checks b longest_answer) ≡ false → (d : Decomposition) → d ≡ (refused (byte_checks b longest_answer)).decomposition
      → (complete d.outcome ≡ false) × (MarksFit d × PlaceFits (place d.outcome))
  bytes-fits h d e = let f = bytes_fit b in rw e (h, (f.marks, f.placed))

  pub bytes-answers : complete (byte_checks b longest_answer) ≡ false → (o : Outcome) → o ≡ byte_checks b longest_answer → (d : Decomposition) → d ≡ (refused o).decomposition
      → (out out' : List ℕ) (len : ℕ) → Front (answer_record (result_with d [] [] [])) out out' len → Answers (result_of b) out out' (record { outcome = o; len = len })
  bytes-answers h o eo d ed out out' len w = rw (bytes-refused b h) (record { front = rw (ed, eo) at w; outcome_is = eo })

-- ---- the call
module _ (b out : List ℕ) where
  pub call_returns : (outcome : Outcome) → outcome ≡ byte_checks b (length out) → (length out ≡ longest_answer → ⊥) → (record_call_of outcome 0 out ≡ record_call b out) × Counts 0 out
  unfolding record_call
  call_returns outcome e h = (ap (λ (o : Outcome). record_call_of o 0 out) (e ∙ sym (other_checks b (length out) h)) ∙ rw (ne_eqb (length out) longest_answer h), (omega arith, refl))

  pub call-writes : (r : RecordAnswer) (out' : List ℕ) → length out ≡ longest_answer → Answers (result_of b) out out' r → (record_call_of r.outcome r.len out' ≡ record_call b out) × Counts r.len out'
  unfolding record_call answer
  call-writes r out' h w =
      let l : length out' ≡ length out = ap length w.front.0 ∙ length_over out 0 (answer b) (omega (arith, answer-length_at_most b)) in
      let n : r.len ≡ length (answer b) = w.front.1 in
      let s : r.len ≤ length out' = omega (arith, answer-length_at_most b) in
      (rw (eq-eqb (length out) longest_answer h, w.front.0, w.front.1, w.outcome_is), (s, sym (length-take-le r.len out' s)))
