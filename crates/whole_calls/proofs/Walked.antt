-- What a walk over a record found: all fields due stand, or the first that runs past the end or has another tag.
use mathlib.Core.Path.{◌≡◌, refl, sym, ap, ◌∙◌}
use mathlib.Core.List.{List}
use mathlib.Core.Bool.{true, false}
use Prim.Native.Nat.{ℕ, suc, ◌+◌, ◌-◌, ◌≤◌, ◌<◌}
use native.Mathlib.Decide.{dec_lt}
use native.Mathlib.Omega.{arith}
use lib.ListN.{length, get_or}
use lib.Dec.{eqb, ltb}
use borrow.Author.Tests.{eqb-true, eqb-false, ltb-true, ltb-false}
use Rattle.arithmetic.proofs.Cases.{is, holds, fails}
use Rattle.record.specs.Cursor.{expect, after, nothing_due, noted, part_at, cut, pass_field, walk, walk_start}
use Rattle.record.specs.declared.cursor.Cursor.{Cursor}
use Rattle.record.specs.declared.cursor.Part.{Part}
use Rattle.record.specs.declared.cursor.Stage.{Stage}
use Rattle.record.specs.declared.cursor.Stage.TheVariants.{MethodDue, NumbersOrEntriesDue, EntriesDue, Done, PastEnd, WrongTag}
use Rattle.record.proofs.Walk.{part_is, not_cut, step_stays, step-stops, step-passes, walk_steps}
use Rattle.whole_calls.specs.BrokenRecords.{length_at, field_start, tag_at, tags_due, fields_due, Stands, AllStand, PastEndAt, WrongTagAt}

-- ---- a field's length, and whether it is cut, by the bytes at a position
module _ (b : List ℕ) (at : ℕ) where
  pub length-is : 3 ≤ length b - at → (part_at b at).len ≡ length_at b at
  length-is h = ap (λ (p : Part). p.len) (sym (part_is b at h (get_or b (at + 1) 0) (get_or b (at + 2) 0) refl refl))

  whole-field : cut b at ≡ false → ((part_at b at).len ≡ length_at b at) × (at + 3 + length_at b at ≤ length b)
  whole-field h = let f = not_cut b at h in let e = length-is (omega (arith, f)) in (e, omega (arith, f, e))

  cut_field : cut b at ≡ true → length b < at + 3 + length_at b at
  cut_field h =
      let c = ltb-true (length b - at) (3 + (part_at b at).len) h in
      elim (is (ltb (length b - at) 3)) [
        | holds e ↦ omega (arith, ltb-true (length b - at) 3 e)
        | fails e ↦ omega (arith, c, length-is (ltb-false (length b - at) 3 e))
      ]

-- ---- field k, where tag is due and then the stage next
-- it is passed
pub record Passed (b : List ℕ) (k : ℕ) (c : Cursor) (tag : ℕ) (next : Stage) : Type 0 where
  pub whole : cut b c.at ≡ false
  pub tagged : get_or b c.at 0 ≡ tag
  pub leads : pass_field b k c ≡ record { at = c.at + 3 + (part_at b c.at).len; stage = next; parts = noted tag (part_at b c.at) c.parts }

pub data Met (b : List ℕ) (k : ℕ) (c : Cursor) (tag : ℕ) (next : Stage) : Type 0 where
  passes : Passed b k c tag next → Met b k c tag next
  cut_off : cut b c.at ≡ true → (pass_field b k c).stage ≡ PastEnd k → Met b k c tag next
  other_tag : cut b c.at ≡ false → (get_or b c.at 0 ≡ tag → ⊥) → (found : ℕ) → (pass_field b k c).stage ≡ WrongTag k found → Met b k c tag next

pub met : (b : List ℕ) (k : ℕ) (c : Cursor) (tag : ℕ) (next : Stage) → nothing_due c.stage ≡ false
    → (let found = get_or b c.at 0 in after k c.stage found ≡ expect k found tag next) → Met b k c tag next
met b k c tag next going due = elim (is (cut b c.at)) [
  | holds t ↦ cut_off t (rw (step-stops b k c going t))
  | fails t ↦
      let found = get_or b c.at 0 in
      elim (is (eqb found tag)) [
        | holds e ↦ let g = eqb-true found tag e in passes (record { whole = t; tagged = g; leads = step-passes b k c going t ∙ rw (due, e, g) })
        | fails e ↦ other_tag t (eqb-false found tag e) found (rw (step-passes b k c going t, due, e))
      ]
]

-- ---- the walk as far as field k
record UpTo (b : List ℕ) (k : ℕ) (c : Cursor) : Type 0 where
  at_is : c.at ≡ field_start b k
  stand : (i : ℕ) → i < k → Stands b i

module _ (b : List ℕ) (k : ℕ) (c : Cursor) (tag : ℕ) (u : UpTo b k c) (due : tag ≡ get_or (tags_due b) k 0) where
  passed_up : (next : Stage) → Passed b k c tag next → UpTo b (suc k) (pass_field b k c)
  passed_up next p =
      let at = field_start b k in
      let w = whole-field b at (rw u.at_is at p.whole) in
      let here : Stands b k = (w.1, (rw u.at_is at p.tagged) ∙ due) in
      let end : c.at + 3 + (part_at b c.at).len ≡ field_start b (suc k) = rw (u.at_is, w.0) in
      record {
        at_is = ap (λ (c : Cursor). c.at) p.leads ∙ end;
        stand = λ i h. elim (dec_lt i k) [ yes q ↦ u.stand i q | no q ↦ let e : i ≡ k = omega arith in rw e here ];
      }

  cut-here : k < fields_due b → cut b c.at ≡ true → PastEndAt b k
  cut-here h e = ((h, u.stand), cut_field b (field_start b k) (rw u.at_is at e))

  tag-here : k < fields_due b → cut b c.at ≡ false → (get_or b c.at 0 ≡ tag → ⊥) → WrongTagAt b k
  tag-here h e n = ((h, u.stand), (whole-field b (field_start b k) (rw u.at_is at e)).1, λ t. n (rw u.at_is (t ∙ sym due)))

-- ---- the whole walk
abbrev pub one : List ℕ → Cursor
one b = pass_field b 0 walk_start

abbrev pub two : List ℕ → Cursor
two b = pass_field b 1 (one b)

abbrev pub three : List ℕ → Cursor
three b = pass_field b 2 (two b)

-- what follows 01 and 02
pub data Rest (b : List ℕ) : Type 0 where
  entries-alone : Passed b 2 (two b) 0x03 Done → Rest b
  numbers-first : Passed b 2 (two b) 0x04 EntriesDue → Passed b 3 (three b) 0x03 Done → Rest b

-- its fields stand
pub record Whole (b : List ℕ) : Type 0 where
  pub first : Passed b 0 walk_start 0x01 MethodDue
  pub second : Passed b 1 (one b) 0x02 NumbersOrEntriesDue
  pub rest : Rest b
  pub stand : AllStand b
  pub done : (walk b).stage ≡ Done
  pub end_is : (walk b).at ≡ field_start b (fields_due b)
  pub size_is : (walk b).parts.size ≡ part_at b 0
  pub method_is : (walk b).parts.method ≡ part_at b (one b).at
  pub size_length : (walk b).parts.size.len ≡ length_at b (field_start b 0)
  pub method_length : (walk b).parts.method.len ≡ length_at b (field_start b 1)

pub data Walked (b : List ℕ) : Type 0 where
  all : Whole b → Walked b
  cut_in : (i : ℕ) → PastEndAt b i → (walk b).stage ≡ PastEnd i → Walked b
  tag_in : (i found : ℕ) → WrongTagAt b i → (walk b).stage ≡ WrongTag i found → Walked b

module _ (b : List ℕ) where
  -- a walk that stopped stays
  pub stops_three : nothing_due (three b).stage ≡ true → walk b ≡ three b
  stops_three h = walk_steps b ∙ step_stays b 3 (three b) h

  pub stops_two : nothing_due (two b).stage ≡ true → walk b ≡ two b
  stops_two h = walk_steps b ∙ ap (pass_field b 3) (step_stays b 2 (two b) h) ∙ step_stays b 3 (two b) h

  pub stops_one : nothing_due (one b).stage ≡ true → walk b ≡ one b
  stops_one h = walk_steps b ∙ ap (λ (c : Cursor). pass_field b 3 (pass_field b 2 c)) (step_stays b 1 (one b) h) ∙ ap (pass_field b 3) (step_stays b 2 (one b) h) ∙ step_stays b 3 (one b) h

  start : UpTo b 0 walk_start
  start = record { at_is = refl; stand = λ i h. absurd (omega (arith, h)) }

  -- field 2 is due whichever tag it has
  third_due : 2 < fields_due b
  third_due = elim (is (eqb (tag_at b 2) 0x04)) [ holds e ↦ rw e (omega arith) | fails e ↦ rw e (omega arith) ]

  module _ (F : Passed b 0 walk_start 0x01 MethodDue) where
    first-up : UpTo b 1 (one b)
    first-up = passed_up b 0 walk_start 0x01 start refl MethodDue F

    module _ (S : Passed b 1 (one b) 0x02 NumbersOrEntriesDue) where
      second-up : UpTo b 2 (two b)
      second-up = passed_up b 1 (one b) 0x02 first-up refl NumbersOrEntriesDue S

      pub third_starts : (two b).at ≡ field_start b 2
      third_starts = second-up.at_is

      second-stage : (two b).stage ≡ NumbersOrEntriesDue
      second-stage = ap (λ (c : Cursor). c.stage) S.leads

      whole : (r : Rest b) → UpTo b (fields_due b) (walk b) → (walk b).stage ≡ Done → (walk b).parts.size ≡ (two b).parts.size → (walk b).parts.method ≡ (two b).parts.method → Whole b
      whole r u d es em =
          let size : (walk b).parts.size ≡ part_at b 0 = es ∙ ap (λ (c : Cursor). c.parts.size) S.leads ∙ ap (λ (c : Cursor). c.parts.size) F.leads in
          let method : (walk b).parts.method ≡ part_at b (one b).at = em ∙ ap (λ (c : Cursor). c.parts.method) S.leads in
          record {
            first = F;
            second = S;
            rest = r;
            stand = u.stand;
            done = d;
            end_is = u.at_is;
            size_is = size;
            method_is = method;
            size_length = ap (λ (p : Part). p.len) size ∙ (whole-field b 0 F.whole).0;
            method_length = ap (λ (p : Part). p.len) method ∙ (whole-field b (one b).at S.whole).0 ∙ ap (length_at b) first-up.at_is;
          }

      -- 03 after 02
      module _ (e : eqb (tag_at b 2) 0x04 ≡ false) where
        entries-due : 0x03 ≡ get_or (tags_due b) 2 0
        entries-due = rw e refl

        plain : Passed b 2 (two b) 0x03 Done → Whole b
        plain D =
            let s : walk b ≡ three b = stops_three (ap (λ (c : Cursor). nothing_due c.stage) D.leads) in
            let u : UpTo b 3 (three b) = passed_up b 2 (two b) 0x03 second-up entries-due Done D in
            let l = s ∙ D.leads in
            whole (entries-alone D) (rw (e, s) u) (ap (λ (c : Cursor). c.stage) l) (ap (λ (c : Cursor). c.parts.size) l) (ap (λ (c : Cursor). c.parts.method) l)

      -- 04 after 02
      module _ (e : eqb (tag_at b 2) 0x04 ≡ true) where
        numbers-due : 0x04 ≡ get_or (tags_due b) 2 0
        numbers-due = rw e refl

        last_due : 0x03 ≡ get_or (tags_due b) 3 0
        last_due = rw e refl

        fourth_due : 3 < fields_due b
        fourth_due = rw e (omega arith)

        module _ (N : Passed b 2 (two b) 0x04 EntriesDue) where
          third_up : UpTo b 3 (three b)
          third_up = passed_up b 2 (two b) 0x04 second-up numbers-due EntriesDue N

          numbered : Passed b 3 (three b) 0x03 Done → Whole b
          numbered D =
              let l = walk_steps b ∙ D.leads in
              let u : UpTo b 4 (pass_field b 3 (three b)) = passed_up b 3 (three b) 0x03 third_up last_due Done D in
              whole (numbers-first N D) (rw (e, walk_steps b) u) (ap (λ (c : Cursor). c.stage) l)
              (ap (λ (c : Cursor). c.parts.size) l ∙ ap (λ (c : Cursor). c.parts.size) N.leads) (ap (λ (c : Cursor). c.parts.method) l ∙ ap (λ (c : Cursor). c.parts.method) N.leads)

          from-three : Walked b
          from-three =
              let s : (three b).stage ≡ EntriesDue = ap (λ (c : Cursor). c.stage) N.leads in
              elim (met b 3 (three b) 0x03 Done (rw s refl) (rw s refl)) [
                | passes D ↦ all (numbered D)
                | cut_off t g ↦ cut_in 3 (cut-here b 3 (three b) 0x03 third_up last_due fourth_due t) (ap (λ (c : Cursor). c.stage) (walk_steps b) ∙ g)
                | other_tag t n found g ↦ tag_in 3 found (tag-here b 3 (three b) 0x03 third_up last_due fourth_due t n) (ap (λ (c : Cursor). c.stage) (walk_steps b) ∙ g)
              ]

      from-two : Walked b
      from-two = elim (is (eqb (tag_at b 2) 0x04)) [
        | holds e ↦ elim (met b 2 (two b) 0x04 EntriesDue (rw second-stage refl) (rw (second-stage, second-up.at_is, e) refl)) [
          | passes N ↦ from-three e N
          | cut_off t g ↦ cut_in 2 (cut-here b 2 (two b) 0x04 second-up (numbers-due e) third_due t) (ap (λ (c : Cursor). c.stage) (stops_three (ap nothing_due g)) ∙ g)
          | other_tag t n found g ↦ tag_in 2 found (tag-here b 2 (two b) 0x04 second-up (numbers-due e) third_due t n) (ap (λ (c : Cursor). c.stage) (stops_three (ap nothing_due g)) ∙ g)
        ]
        | fails e ↦ elim (met b 2 (two b) 0x03 Done (rw second-stage refl) (rw (second-stage, second-up.at_is, e) refl)) [
          | passes D ↦ all (plain e D)
          | cut_off t g ↦ cut_in 2 (cut-here b 2 (two b) 0x03 second-up (entries-due e) third_due t) (ap (λ (c : Cursor). c.stage) (stops_three (ap nothing_due g)) ∙ g)
          | other_tag t n found g ↦ tag_in 2 found (tag-here b 2 (two b) 0x03 second-up (entries-due e) third_due t n) (ap (λ (c : Cursor). c.stage) (stops_three (ap nothing_due g)) ∙ g)
        ]
      ]

    from_one : Walked b
    from_one =
        let s : (one b).stage ≡ MethodDue = ap (λ (c : Cursor). c.stage) F.leads in
        elim (met b 1 (one b) 0x02 NumbersOrEntriesDue (rw s refl) (rw s refl)) [
          | passes S ↦ from-two S
          | cut_off e g ↦ cut_in 1 (cut-here b 1 (one b) 0x02 first-up refl (omega (arith, third_due)) e) (ap (λ (c : Cursor). c.stage) (stops_two (ap nothing_due g)) ∙ g)
          | other_tag e n found g ↦ tag_in 1 found (tag-here b 1 (one b) 0x02 first-up refl (omega (arith, third_due)) e n) (ap (λ (c : Cursor). c.stage) (stops_two (ap nothing_due g)) ∙ g)
        ]

  pub walked : Walked b
  walked = elim (met b 0 walk_start 0x01 MethodDue refl refl) [
    | passes F ↦ from_one F
    | cut_off e g ↦ cut_in 0 (cut-here b 0 walk_start 0x01 start refl (omega (arith, third_due)) e) (ap (λ (c : Cursor). c.stage) (stops_one (ap nothing_due g)) ∙ g)
    | other_tag e n found g ↦ tag_in 0 found (tag-here b 0 walk_start 0x01 start refl (omega (arith, third_due)) e n) (ap (λ (c : Cursor). c.stage) (stops_one (ap nothing_due g)) ∙ g)
  ]

-- no walk stops where a field is due
pub walk_ends : (b : List ℕ) → nothing_due (walk b).stage ≡ true
walk_ends b = elim (walked b) [
  | all w ↦ ap nothing_due w.done
  | cut_in i p e ↦ ap nothing_due e
  | tag_in i found p e ↦ ap nothing_due e
]
