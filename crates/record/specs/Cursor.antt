-- A walk over a record's fields, from the first on: which tags are due, and where the content of each field stands.
use Rattle.std.specs.Prelude.{List, [], Option, None, Some, Bool, true, false, cond, ℕ, ◌+◌, ◌-◌, length, get_or, take, drop, eqb, ltb}
use Rattle.arithmetic.specs.Loop.{range}
use Rattle.encoding.specs.Bytes.{low_first}
use Rattle.record.specs.declared.cursor.Cursor.{Cursor}
use Rattle.record.specs.declared.cursor.Part.{Part}
use Rattle.record.specs.declared.cursor.Parts.{Parts}
use Rattle.record.specs.declared.cursor.Stage.{Stage}
use Rattle.record.specs.declared.cursor.Stage.TheVariants.{SizeDue, MethodDue, NumbersOrEntriesDue, EntriesDue, Done, PastEnd, WrongTag}

-- ---- the fields of a record: 01 n, 02 method, 04 numbers where it has them, 03 entries
abbrev pub most_fields : ℕ
most_fields = 4

-- the stage after field k, by the tag that stands there: the next one where it is due
abbrev pub expect : ℕ → ℕ → ℕ → Stage → Stage
expect k tag due next = cond (eqb tag due) next (WrongTag k tag)

abbrev pub after : ℕ → Stage → ℕ → Stage
after k SizeDue tag = expect k tag 0x01 MethodDue
after k MethodDue tag = expect k tag 0x02 NumbersOrEntriesDue
after k NumbersOrEntriesDue tag = cond (eqb tag 0x04) EntriesDue (expect k tag 0x03 Done)
after k EntriesDue tag = expect k tag 0x03 Done
after k Done tag = Done
after k (PastEnd field) tag = PastEnd field
after k (WrongTag field found) tag = WrongTag field found

-- no field is due any more
abbrev pub nothing_due : Stage → Bool
nothing_due SizeDue = false
nothing_due MethodDue = false
nothing_due NumbersOrEntriesDue = false
nothing_due EntriesDue = false
nothing_due Done = true
nothing_due (PastEnd field) = true
nothing_due (WrongTag field found) = true

-- where the content of the field with a tag stands: in its part, and the others stay
abbrev pub noted_if : {A : Type 0} → ℕ → ℕ → A → A → A
noted_if tag due part before = cond (eqb tag due) part before

abbrev pub noted : ℕ → Part → Parts → Parts
noted tag part parts = record {
  size = noted_if tag 0x01 part parts.size;
  method = noted_if tag 0x02 part parts.method;
  numbers = noted_if tag 0x04 (Some part) parts.numbers;
  entries = noted_if tag 0x03 part parts.entries;
}

-- ---- the field that starts at a position: tag, length in two bytes, content
abbrev pub part_at : List ℕ → ℕ → Part
part_at b at = record { start = at + 3; len = low_first (take 2 (drop (at + 1) b)) }

-- its header or its content runs past the end
abbrev pub cut : List ℕ → ℕ → Bool
cut b at = ltb (length b - at) (3 + (part_at b at).len)

abbrev pub content_at : List ℕ → Part → List ℕ
content_at b part = take part.len (drop part.start b)

-- .. none where there is no such part
abbrev pub optional_content : List ℕ → Option Part → List ℕ
optional_content b None = []
optional_content b (Some part) = content_at b part

-- ---- the walk: field k is passed, unless the walk has stopped
unfoldable pub pass_field : List ℕ → ℕ → Cursor → Cursor
unfolding low_first
pass_field b k c =
    let part = part_at b c.at in
    let tag = get_or b c.at 0 in
    cond (nothing_due c.stage) c
    (cond (cut b c.at) (record { at = c.at; stage = PastEnd k; parts = c.parts })
    (record { at = part.start + part.len; stage = after k c.stage tag; parts = noted tag part c.parts }))

abbrev pub nothing : Part
nothing = record { start = 0; len = 0 }

abbrev pub walk_start : Cursor
walk_start = record { at = 0; stage = SizeDue; parts = record { size = nothing; method = nothing; numbers = None; entries = nothing } }

unfoldable pub walk : List ℕ → Cursor
unfolding range pass_field
walk b = range 0 most_fields (pass_field b) walk_start
