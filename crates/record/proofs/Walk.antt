-- A walk over a record's fields: what one step does, and at which field a walk stops.
use mathlib.Core.Path.{◌≡◌, refl, sym, ap, ◌∙◌}
use mathlib.Core.List.{List, [], ◌∷◌}
use mathlib.Core.Bool.{true, false, true≢false}
use Prim.Native.Nat.{ℕ, suc, ◌+◌, ◌-◌, ◌*◌, ◌≤◌, ◌<◌}
use native.Mathlib.Omega.{arith}
use lib.ListN.{length, get_or, take, drop, length-drop, drop_of_length-le}
use lib.Seq.{take_all, take-nil}
use lib.Dec.{eqb, ltb}
use borrow.Author.Tests.{ltb-true, ltb-false, lt-ltb}
use Rattle.std.specs.Prelude.{Option, None, Some}
use Rattle.std.specs.Option.{is_some}
use Rattle.arithmetic.specs.Loop.{range, times}
use Rattle.arithmetic.proofs.Cases.{same_tests, is, holds, fails}
use Rattle.encoding.specs.Bytes.{low_first}
use Rattle.answer_record.specs.Field.{field}
use Rattle.record.specs.Cursor.{expect, after, nothing_due, noted, part_at, cut, pass_field, walk, nothing, walk_start}
use Rattle.record.specs.declared.cursor.Cursor.{Cursor}
use Rattle.record.specs.declared.cursor.Part.{Part}
use Rattle.record.specs.declared.cursor.Parts.{Parts}
use Rattle.record.specs.declared.cursor.Stage.{Stage}
use Rattle.record.specs.declared.cursor.Stage.TheVariants.{SizeDue, MethodDue, NumbersOrEntriesDue, EntriesDue, Done, PastEnd, WrongTag}
use Rattle.encoding.proofs.Numbers.{take_more}

-- ---- a field's header
module _ (b : List ℕ) (at : ℕ) (h : 3 ≤ length b - at) where
  length-bytes_at : take 2 (drop (at + 1) b) ≡ get_or b (at + 1) 0 ∷ get_or b (at + 2) 0 ∷ []
  length-bytes_at =
      let e : suc (at + 1) ≡ at + 2 = omega arith in
      rw (take_more b 1 (at + 1) (omega arith), e, take_more b 0 (at + 2) (omega arith))

  pub part_is : (low high : ℕ) → low ≡ get_or b (at + 1) 0 → high ≡ get_or b (at + 2) 0 → record { start = at + 3; len = low + 256 * high } ≡ part_at b at
  unfolding low_first
  part_is low high e f = rw (length-bytes_at, ← e, ← f) (ap (λ (l : ℕ). record { start = at + 3; len = l }) (omega arith))

pub cut-is : (room len : ℕ) → 3 ≤ room → ltb (room - 3) len ≡ ltb room (3 + len)
cut-is room len h = same_tests (ltb (room - 3) len) (ltb room (3 + len))
    (λ t. lt-ltb room (3 + len) (omega (arith, ltb-true (room - 3) len t)))
    (λ t. lt-ltb (room - 3) len (omega (arith, ltb-true room (3 + len) t)))

pub not_cut : (b : List ℕ) (at : ℕ) → cut b at ≡ false → at + 3 + (part_at b at).len ≤ length b
not_cut b at h = omega (arith, ltb-false (length b - at) (3 + (part_at b at).len) h)

-- ---- one step
abbrev pub passed : List ℕ → ℕ → Cursor → Cursor
passed b k c = let part = part_at b c.at in let tag = get_or b c.at 0 in
    record { at = part.start + part.len; stage = after k c.stage tag; parts = noted tag part c.parts }

module _ (b : List ℕ) (k : ℕ) (c : Cursor) where
  pub step_stays : nothing_due c.stage ≡ true → pass_field b k c ≡ c
  unfolding pass_field
  step_stays h = rw h

  pub step-stops : nothing_due c.stage ≡ false → cut b c.at ≡ true → pass_field b k c ≡ record { at = c.at; stage = PastEnd k; parts = c.parts }
  unfolding pass_field
  step-stops h e = rw (h, e)

  pub step-passes : nothing_due c.stage ≡ false → cut b c.at ≡ false → pass_field b k c ≡ passed b k c
  unfolding pass_field
  step-passes h e = rw (h, e)

  pub step_is : nothing_due c.stage ≡ false → cut b c.at ≡ false → (tag : ℕ) (part : Part) (stage : Stage) (parts : Parts)
      → tag ≡ get_or b c.at 0 → part ≡ part_at b c.at → stage ≡ after k c.stage tag → parts ≡ noted tag part c.parts
      → record { at = part.start + part.len; stage = stage; parts = parts } ≡ pass_field b k c
  step_is h e tag part stage parts et ep es eq = rw (es, eq, et, ep) (sym (step-passes h e))

-- ---- a part of a slice, as far as there is one
module _ (b : List ℕ) (start len : ℕ) where
  pub part_none : length b < start → take (length b - length b) (drop (length b) b) ≡ take len (drop start b)
  part_none h = let z : length b - length b ≡ 0 = omega arith in let l : length b ≤ start = omega arith in rw (z, drop_of_length-le b {i = start} l, take-nil)

  pub part_rest : length b - start < len → take (length b - start) (drop start b) ≡ take len (drop start b)
  part_rest h =
      let s = drop start b in
      take_all (length b - start) s (simp length-drop (omega arith)) ∙ sym (take_all len s (simp length-drop (omega arith)))

  pub part_whole : take (start + len - start) (drop start b) ≡ take len (drop start b)
  part_whole = let e : start + len - start ≡ len = omega arith in rw e

-- ---- a walk over at most four fields
pub walk_steps : (b : List ℕ) → walk b ≡ pass_field b 3 (pass_field b 2 (pass_field b 1 (pass_field b 0 walk_start)))
unfolding walk range times
walk_steps b = refl

-- the index of the field at which a walk stopped, else 0
abbrev pub stopped_at : Stage → ℕ
stopped_at SizeDue = 0
stopped_at MethodDue = 0
stopped_at NumbersOrEntriesDue = 0
stopped_at EntriesDue = 0
stopped_at Done = 0
stopped_at (PastEnd field) = field
stopped_at (WrongTag field found) = field

expect-stops : (k tag due : ℕ) (next : Stage) → stopped_at next ≤ k → stopped_at (expect k tag due next) ≤ k
expect-stops k tag due next h = elim (is (eqb tag due)) [ holds e ↦ rw e h | fails e ↦ rw e (omega arith) ]

after-stops : (k : ℕ) (s : Stage) (tag : ℕ) → stopped_at s ≤ k → stopped_at (after k s tag) ≤ k
after-stops k SizeDue tag h = expect-stops k tag 0x01 MethodDue h
after-stops k MethodDue tag h = expect-stops k tag 0x02 NumbersOrEntriesDue h
after-stops k NumbersOrEntriesDue tag h = elim (is (eqb tag 0x04)) [ holds e ↦ rw e h | fails e ↦ rw e (expect-stops k tag 0x03 Done h) ]
after-stops k EntriesDue tag h = expect-stops k tag 0x03 Done h
after-stops k Done tag h = h
after-stops k (PastEnd field) tag h = h
after-stops k (WrongTag field found) tag h = h

step-at_most : (b : List ℕ) (k : ℕ) (c : Cursor) → stopped_at c.stage ≤ k → stopped_at (pass_field b k c).stage ≤ k
step-at_most b k c h = elim (is (nothing_due c.stage)) [
  | holds n ↦ rw (step_stays b k c n) h
  | fails n ↦ elim (is (cut b c.at)) [
    | holds e ↦ rw (step-stops b k c n e) (omega arith)
    | fails e ↦ rw (step-passes b k c n e) (after-stops k c.stage (get_or b c.at 0) h)
  ]
]

pub walk-at_most : (b : List ℕ) → stopped_at (walk b).stage ≤ 3
walk-at_most b =
    let one = pass_field b 0 walk_start in
    let two = pass_field b 1 one in
    let first = step-at_most b 0 walk_start (omega arith) in
    let second = step-at_most b 1 one (omega (arith, first)) in
    let third = step-at_most b 2 two (omega (arith, second)) in
    rw (walk_steps b) (step-at_most b 3 (pass_field b 2 two) (omega (arith, third)))

-- without a field 04 no part is noted for one
pub walk_none : (b : List ℕ) → is_some (walk b).parts.numbers ≡ false → (walk b).parts.numbers ≡ None
walk_none b = none (walk b).parts.numbers
  where
    none : (part : Option Part) → is_some part ≡ false → part ≡ None
    none None h = refl
    none (Some part) h = absurd (true≢false h)
