-- What is broken in a record: the walk's verdict is what the call hands back, and it is told by the record's bytes.
use mathlib.Core.Path.{◌≡◌, refl, sym, ap, subst, ◌∙◌}
use mathlib.Core.List.{List}
use mathlib.Core.Bool.{Bool, true, false, cond, ◌&&◌, true≢false}
use mathlib.Core.Logic.{inl, inr, ◌↔◌}
use Prim.Native.Nat.{ℕ, ◌≤◌, ◌<◌}
use native.Mathlib.Decide.{dec_lt}
use native.Mathlib.Omega.{arith}
use lib.ListN.{length}
use lib.Dec.{eqb}
use borrow.Author.Tests.{not-true, eq-eqb, lt-ltb, le-ltb, eqb-true}
use Rattle.arithmetic.specs.Outcome.{number, complete, ◌then◌, Outcome}
use Rattle.std.specs.Prelude.{Ok, Err}
use Rattle.arithmetic.specs.declared.refusal.Refusal.{Refusal}
use Rattle.arithmetic.specs.declared.refusal.Refusal.TheVariants.{MalformedRecord, FieldPastEnd, TagNotDue}
use Rattle.arithmetic.proofs.OrderLaws.{and_1, and_2}
use Rattle.arithmetic.proofs.Cases.{is, holds, fails}
use Rattle.matrix.proofs.CheckLaws.{Accepted}
use Rattle.answer_record.specs.AnswerRecord.{longest_answer}
use Rattle.record.specs.Cursor.{walk}
use Rattle.record.specs.MatrixRecord.{request, numbered, contracts_of, entries_of, longest_record, check_walk, exact, check_exact, check_record, record_checks}
use Rattle.encoding.specs.Writing.{over}
use Rattle.record.specs.Record.{result_of, answer, RecordCall, record_call_of, record_call}
use Rattle.whole_calls.specs.BrokenRecords.{length_at, field_start, fields_due, Stands, Reached, PastEndAt, WrongTagAt, AllStand, RightLengths, Malformed, handed_back, is_broken, own_record, BrokenRecordsTheorem}
use Rattle.record.proofs.Early.{before_run, content-early}
use Rattle.record.proofs.Answers.{refused-outcome, accepted_number}
use Rattle.whole_calls.proofs.MatrixRecord.{record_well_formed, numbered_well_formed, accepted_length, well_formed_is}
use Rattle.whole_calls.proofs.Walked.{Walked, walked, all, cut_in, tag_in}

-- ---- the first offending field is one field
abbrev Offends : List ℕ → ℕ → Type 0
Offends b i = Reached b i × (Stands b i → ⊥)

past_offends : (b : List ℕ) (i : ℕ) → PastEndAt b i → Offends b i
past_offends b i p = (p.0, λ s. omega (arith, s.0, p.1))

tag-offends : (b : List ℕ) (i : ℕ) → WrongTagAt b i → Offends b i
tag-offends b i p = (p.0, λ s. p.2 s.1)

same-field : (b : List ℕ) (i j : ℕ) → Offends b i → Offends b j → i ≡ j
same-field b i j p q = elim (dec_lt i j) [
  | yes h ↦ absurd (p.1 (q.0.1 i h))
  | no h ↦ elim (dec_lt j i) [ yes k ↦ absurd (q.1 (p.0.1 j k)) | no k ↦ omega arith ]
]

-- where a field offends, and where all lengths are right, nothing is 1
module _ (b : List ℕ) (h : length b ≤ longest_record) where
  offends_not : (i : ℕ) → Offends b i → Malformed b → ⊥
  offends_not i p (inl l) = omega arith
  offends_not i p (inr s) = p.1 (s.0 i p.0.0)

  lengths_not : RightLengths b → Malformed b → ⊥
  lengths_not r (inl l) = omega arith
  lengths_not r (inr s) = s.1 r

-- ---- what checks 1, 10 and 11 say
abbrev verdict : List ℕ → Outcome
verdict b = check_record (length b) (walk b)

data Judged (b : List ℕ) (o : Outcome) : Type 0 where
  malformed : Malformed b → o ≡ Err MalformedRecord → Judged b o
  cut_at : (i : ℕ) → length b ≤ longest_record → PastEndAt b i → o ≡ Err (FieldPastEnd i) → Judged b o
  tag_at : (i : ℕ) → length b ≤ longest_record → WrongTagAt b i → o ≡ Err (TagNotDue i) → Judged b o
  sound : length b ≤ longest_record → AllStand b → RightLengths b → Accepted (verdict b) → is_broken o ≡ false → Judged b o

module _ (b : List ℕ) where
  too_long : longest_record < length b → verdict b ≡ Err MalformedRecord
  too_long h = rw (lt-ltb longest_record (length b) h)

  module _ (h : length b ≤ longest_record) where
    stopped : (r : Refusal) → check_walk (walk b).stage ≡ Err r → verdict b ≡ Err r
    stopped r e = rw (le-ltb longest_record (length b) h, e)

    went_on : check_walk (walk b).stage ≡ Ok tt → verdict b ≡ check_exact (walk b) (length b)
    went_on e = rw (le-ltb longest_record (length b) h, e)

judged : (b : List ℕ) → Judged b (verdict b)
judged b = elim (dec_lt longest_record (length b)) [
  | yes h ↦ malformed (inl h) (too_long b h)
  | no n ↦ let h : length b ≤ longest_record = omega arith in walk-judged h (walked b)
]
  where
    walk-judged : length b ≤ longest_record → Walked b → Judged b (verdict b)
    walk-judged h (cut_in i p e) = cut_at i h p (stopped b h (FieldPastEnd i) (ap check_walk e))
    walk-judged h (tag_in i found p e) = tag_at i h p (stopped b h (TagNotDue i) (ap check_walk e))
    walk-judged h (all t) =
        let v = went_on b h (ap check_walk t.done) in
        let x = eqb (length_at b (field_start b 0)) 1 in
        let y = eqb (length_at b (field_start b 1)) 1 in
        let z = eqb (field_start b (fields_due b)) (length b) in
        let e : exact (walk b) (length b) ≡ (x && (y && z)) = rw (t.size_length, t.method_length, t.end_is) in
        elim (is (x && (y && z))) [
          | holds r ↦
              let c : verdict b ≡ Ok tt = v ∙ rw (e ∙ r) refl in
              let s = and_2 x (y && z) r in
              sound h t.stand (eqb-true _ _ (and_1 x (y && z) r), eqb-true _ _ (and_1 y z s), eqb-true _ _ (and_2 y z s)) (record { is = ap complete c }) (ap is_broken c)
          | fails r ↦ malformed (inr (t.stand, λ l. true≢false (sym (rw (eq-eqb _ _ l.0, eq-eqb _ _ l.1, eq-eqb _ _ l.2) refl) ∙ r))) (v ∙ rw (e ∙ r) refl)
        ]

-- ---- the verdict is what the call hands back: where it is no refusal, neither are the later checks and the run one of these three
first-stays : (o p q : Outcome) → complete o ≡ false → (o then p then q) ≡ o
first-stays (Ok _) p q h = absurd (true≢false h)
first-stays (Err r) p q h = refl

module _ (b : List ℕ) where
  first-decides : (room : ℕ) → complete (verdict b) ≡ false → record_checks b room ≡ verdict b
  first-decides room h = first-stays (verdict b) _ _ h

  -- with a buffer of the answer's length, and with another
  abbrev own : List ℕ → RecordCall
  own out = record_call_of (result_of b).decomposition.outcome (length (answer b)) (over out 0 (answer b))

  abbrev other : List ℕ → RecordCall
  other out = record_call_of (record_checks b (length out)) 0 out

  handed-own : (out : List ℕ) → eqb (length out) longest_answer ≡ true → handed_back b out ≡ (result_of b).decomposition.outcome
  unfolding record_call
  handed-own out e = ap (λ (t : Bool). (cond t (own out) (other out)).handed.outcome) e

  handed-other : (out : List ℕ) → eqb (length out) longest_answer ≡ false → handed_back b out ≡ record_checks b (length out)
  unfolding record_call
  handed-other out e = ap (λ (t : Bool). (cond t (own out) (other out)).handed.outcome) e

  handed-first : (out : List ℕ) → complete (verdict b) ≡ false → handed_back b out ≡ verdict b
  handed-first out h =
      let d = first-decides longest_answer h in
      elim (is (eqb (length out) longest_answer)) [
        | holds e ↦ handed-own out e ∙ refused-outcome b (ap complete d ∙ h) ∙ d
        | fails e ↦ handed-other out e ∙ first-decides (length out) h
      ]

  later_checks : (room : ℕ) → complete (verdict b) ≡ true → is_broken (record_checks b room) ≡ false
  later_checks room h = let n = number (record_checks b room) in not-true _ (and_2 (before_run n) _ (content-early b room (record { is = h })).number_is)

  later_result : complete (verdict b) ≡ true → is_broken (result_of b).decomposition.outcome ≡ false
  later_result h = elim (is (complete (record_checks b longest_answer))) [
    | holds c ↦ elim (accepted_number b c) [ inl e ↦ rw e | inr e ↦ rw e ]
    | fails c ↦ rw (refused-outcome b c) (later_checks longest_answer h)
  ]

  handed-later : (out : List ℕ) → complete (verdict b) ≡ true → is_broken (handed_back b out) ≡ false
  handed-later out h = elim (is (eqb (length out) longest_answer)) [
    | holds e ↦ rw (handed-own out e) (later_result h)
    | fails e ↦ rw (handed-other out e) (later_checks (length out) h)
  ]

handed-judged : (b out : List ℕ) → Judged b (handed_back b out)
handed-judged b out = go (judged b)
  where
    go : Judged b (verdict b) → Judged b (handed_back b out)
    go (malformed m e) = malformed m (handed-first b out (ap complete e) ∙ e)
    go (cut_at i h p e) = cut_at i h p (handed-first b out (ap complete e) ∙ e)
    go (tag_at i h p e) = tag_at i h p (handed-first b out (ap complete e) ∙ e)
    go (sound h s r A u) = sound h s r A (handed-later b out A.is)

-- ---- the theorem: one verdict holds, and none beside it
module _ (b : List ℕ) (o : Outcome) where
  past_end_told : length b ≤ longest_record → (i : ℕ) → Judged b o → o ≡ Err (FieldPastEnd i) ↔ PastEndAt b i
  past_end_told h i (malformed m e) = (λ f. cc, λ q. absurd (offends_not b h i (past_offends b i q) m))
  past_end_told h i (cut_at j _ p e) = (
    λ f. let s : j ≡ i = cc in rw (← s) p,
    λ q. e ∙ ap (λ (k : ℕ). Err (FieldPastEnd k)) (same-field b j i (past_offends b j p) (past_offends b i q)),
  )
  past_end_told h i (tag_at j _ p e) = (
    λ f. cc,
    λ q. let s = same-field b j i (tag-offends b j p) (past_offends b i q) in absurd (let w = rw s at p in omega (arith, w.1, q.1)),
  )
  past_end_told h i (sound _ s r A u) = (λ f. absurd (true≢false (ap is_broken (sym f) ∙ u)), λ q. absurd ((past_offends b i q).1 (s i q.0.0)))

  wrong_tag-told : length b ≤ longest_record → (i : ℕ) → Judged b o → o ≡ Err (TagNotDue i) ↔ WrongTagAt b i
  wrong_tag-told h i (malformed m e) = (λ f. cc, λ q. absurd (offends_not b h i (tag-offends b i q) m))
  wrong_tag-told h i (cut_at j _ p e) = (
    λ f. cc,
    λ q. let s = same-field b j i (past_offends b j p) (tag-offends b i q) in absurd (let w = rw s at p in omega (arith, w.1, q.1)),
  )
  wrong_tag-told h i (tag_at j _ p e) = (
    λ f. let s : j ≡ i = cc in rw (← s) p,
    λ q. e ∙ ap (λ (k : ℕ). Err (TagNotDue k)) (same-field b j i (tag-offends b j p) (tag-offends b i q)),
  )
  wrong_tag-told h i (sound _ s r A u) = (λ f. absurd (true≢false (ap is_broken (sym f) ∙ u)), λ q. absurd ((tag-offends b i q).1 (s i q.0.0)))

  malformed-told : Judged b o → o ≡ Err MalformedRecord ↔ Malformed b
  malformed-told (malformed m e) = (λ _. m, λ _. e)
  malformed-told (cut_at i h p e) = (λ f. cc, λ m. absurd (offends_not b h i (past_offends b i p) m))
  malformed-told (tag_at i h p e) = (λ f. cc, λ m. absurd (offends_not b h i (tag-offends b i p) m))
  malformed-told (sound h s r A u) = (λ f. absurd (true≢false (ap is_broken (sym f) ∙ u)), λ m. absurd (lengths_not b h r m))

  unbroken_accepted : Judged b o → is_broken o ≡ false → Accepted (verdict b)
  unbroken_accepted (malformed m e) u = absurd (true≢false (ap is_broken (sym e) ∙ u))
  unbroken_accepted (cut_at i h p e) u = absurd (true≢false (ap is_broken (sym e) ∙ u))
  unbroken_accepted (tag_at i h p e) u = absurd (true≢false (ap is_broken (sym e) ∙ u))
  unbroken_accepted (sound h s r A _) u = A

-- the record of its own parts passes checks 1, 10 and 11
abbrev FormPasses : List ℕ → Type 0
FormPasses b = length b ≤ longest_record → Accepted (check_record (length b) (walk b))

own_record_lem : (b : List ℕ) → b ≡ own_record b → FormPasses b
own_record_lem b e =
    let r = request b in
    subst FormPasses (sym e) (elim (is (numbered r)) [
      | holds t ↦ rw t (numbered_well_formed r.size r.method (contracts_of b) (entries_of b))
      | fails t ↦ rw t (record_well_formed r.size r.method (entries_of b))
    ])

pub broken_records : BrokenRecordsTheorem
broken_records b out =
    let j = handed-judged b out in
    record {
      past_end = λ h i. past_end_told b (handed_back b out) h i j;
      wrong_tag = λ h i. wrong_tag-told b (handed_back b out) h i j;
      malformed = malformed-told b (handed_back b out) j;
      otherwise = λ small. (
        λ u. let A = unbroken_accepted b (handed_back b out) j u in (accepted_length b A, well_formed_is b A small),
        λ e. handed-later b out (own_record_lem b e.1 e.0).is,
      );
    }
