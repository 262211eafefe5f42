-- A record's form passes exactly when it is the record of its own size, method, numbers where it has them, and entries, and not too long.
use mathlib.Core.Path.{◌≡◌, refl, sym, ap, ◌∙◌}
use mathlib.Core.List.{List, [], ◌∷◌, ◌++◌, append_assoc, append-nil}
use mathlib.Core.Bool.{true, false, not, ◌&&◌, false≢true}
use Prim.Native.Nat.{ℕ, suc, ◌+◌, ◌-◌, ◌*◌, ◌/◌, ◌%◌, ◌≤◌, ◌<◌}
use native.Mathlib.Omega.{arith}
use Rattle.std.specs.Prelude.{None, Some}
use lib.ListN.{length, get_or, take, drop, length-append, length-drop, take-append-drop}
use lib.Seq.{take-length, take-append_seam, drop_at, drop-append-add, get_or-append_seam, drop-cons, drop-drop, drop-length, length-take-le}
use lib.Dec.{eqb, ltb}
use borrow.Author.Tests.{eqb-true, eq-eqb, ltb-false, le-ltb, not-false}
use Rattle.arithmetic.proofs.OrderLaws.{and_1, and_2}
use Rattle.arithmetic.proofs.OutcomeLaws.{refuse-complete}
use Rattle.arithmetic.specs.declared.refusal.Refusal.TheVariants.{MalformedRecord}
use Rattle.matrix.proofs.CellLaws.{square-small}
use Rattle.matrix.specs.Plain.{AllBelow}
use Rattle.matrix.proofs.CheckLaws.{Accepted, both_accepted}
use Rattle.encoding.specs.Bytes.{low_first, bytes}
use Rattle.answer_record.specs.Field.{field}
use Rattle.record.specs.Cursor.{after, nothing_due, noted, part_at, cut, content_at, pass_field, walk, nothing, walk_start}
use Rattle.record.specs.MatrixRecord.{matrix_record, numbered_record, request, contracts_of, entries_of, longest_record, check_longest, check_walk, exact, check_exact, check_record}
use Rattle.record.specs.declared.cursor.Cursor.{Cursor}
use Rattle.record.specs.declared.cursor.Part.{Part}
use Rattle.record.specs.declared.cursor.Parts.{Parts}
use Rattle.record.specs.declared.cursor.Stage.{Stage}
use Rattle.record.specs.declared.read.Request.{Request}
use Rattle.record.specs.declared.cursor.Stage.TheVariants.{MethodDue, NumbersOrEntriesDue, EntriesDue, Done}
use Rattle.encoding.proofs.Numbers.{take_more, number-bytes}
use Rattle.record.proofs.Walk.{not_cut, step-passes, walk_steps}
use Rattle.whole_calls.specs.BrokenRecords.{own_record}
use Rattle.whole_calls.proofs.Walked.{length-is, one, two, three, stops_three, Passed, entries-alone, numbers-first, Whole, walked, all, cut_in, tag_in}

-- ---- a field that stands in place, after pre, is passed
module _ (b pre content post : List ℕ) (tag : ℕ) (h : length content < 65536) (place : b ≡ pre ++ (field tag content ++ post)) where
  tag-here : get_or b (length pre) 0 ≡ tag
  tag-here = rw place (get_or-append_seam pre tag _ 0)

  len-here : low_first (take 2 (drop (length pre + 1) b)) ≡ length content
  unfolding bytes
  len-here =
      rw (place, drop-append-add pre (field tag content ++ post) 1)
      (number-bytes 2 (length content) h)

  whole_here : cut b (length pre) ≡ false
  unfolding bytes
  whole_here =
      let l : length b ≡ length pre + (3 + (length content + length post)) = rw (place, length-append, length-append) (omega arith) in
      rw len-here (le-ltb (length b - length pre) (3 + length content) (omega arith))

  pub field-passed : (k : ℕ) (c : Cursor) → c.at ≡ length pre → nothing_due c.stage ≡ false
      → pass_field b k c ≡ record { at = length pre + 3 + length content; stage = after k c.stage tag; parts = noted tag (record { start = length pre + 3; len = length content }) c.parts }
  field-passed k c e s =
      step-passes b k c s (rw e whole_here) ∙ rw (e, tag-here, len-here)

-- ---- the record of its parts
-- what is known after 01 and 02
abbrev head_parts : Parts
head_parts = record { size = record { start = 3; len = 1 }; method = record { start = 7; len = 1 }; numbers = None; entries = nothing }

abbrev after_head : Cursor
after_head = record { at = 8; stage = NumbersOrEntriesDue; parts = head_parts }

abbrev head : ℕ → ℕ → List ℕ
head n method = field 0x01 (n ∷ []) ++ field 0x02 (method ∷ [])

head_walk : (n method : ℕ) (b rest : List ℕ) → b ≡ head n method ++ rest → two b ≡ after_head
unfolding bytes
head_walk n method b rest e =
    ap (pass_field b 1) (field-passed b [] (n ∷ []) (field 0x02 (method ∷ []) ++ rest) 0x01 (omega arith) e 0 walk_start refl refl)
    ∙ field-passed b (field 0x01 (n ∷ [])) (method ∷ []) rest 0x02 (omega arith) e 1 _ refl refl

-- its form passes where the walk over it is exact
exact-accepted : (b : List ℕ) (parts : Parts) → walk b ≡ record { at = length b; stage = Done; parts = parts } → parts.size.len ≡ 1 → parts.method.len ≡ 1 → length b ≤ longest_record
    → Accepted (check_record (length b) (walk b))
exact-accepted b parts e s m h = record { is = rw (e, s, m, le-ltb longest_record (length b) h, eq-eqb (length b) (length b) refl) }

module _ (n method : ℕ) (entries : List ℕ) where
  pub record_length : length (matrix_record n method entries) ≡ 11 + length entries
  unfolding matrix_record bytes
  record_length = omega arith

  -- no record of at most 48 rows is too long
  pub record_fits : n ≤ 48 → length entries ≡ 8 * (n * n) → length (matrix_record n method entries) ≤ longest_record
  record_fits s h = omega (arith, record_length, square-small n s)

  abbrev plain_parts : Parts
  plain_parts = noted 0x03 (record { start = 11; len = length entries }) head_parts

  -- a length that two bytes hold
  record_walk : length entries < 65536 → walk (matrix_record n method entries) ≡ record { at = length (matrix_record n method entries); stage = Done; parts = plain_parts }
  unfolding matrix_record bytes
  record_walk h =
      let b = matrix_record n method entries in
      let e : three b ≡ record { at = 11 + length entries; stage = Done; parts = plain_parts } =
      ap (pass_field b 2) (head_walk n method b (field 0x03 entries) refl)
      ∙ field-passed b (head n method) entries [] 0x03 h (rw append-nil) 2 after_head refl refl in
      stops_three b (ap (λ (c : Cursor). nothing_due c.stage) e) ∙ e ∙ rw record_length refl

  pub record_request : length entries < 65536
      → request (matrix_record n method entries) ≡ record { size = n; method = method; numbers = None; entries = record { start = 11; len = length entries } }
  unfolding request matrix_record bytes
  record_request h = rw (record_walk h)

  pub record_entries : length entries < 65536 → entries_of (matrix_record n method entries) ≡ entries
  unfolding matrix_record bytes
  record_entries h = rw (record_request h) (take-length entries)

  pub record_well_formed : length (matrix_record n method entries) ≤ longest_record → Accepted (check_record (length (matrix_record n method entries)) (walk (matrix_record n method entries)))
  record_well_formed h = exact-accepted (matrix_record n method entries) plain_parts (record_walk (omega (arith, record_length))) refl refl h

-- .. with contract numbers
module _ (n method : ℕ) (contracts entries : List ℕ) where
  pub numbered_length : length (numbered_record n method contracts entries) ≡ 11 + length contracts + 3 + length entries
  unfolding numbered_record bytes
  numbered_length = rw length-append (omega arith)

  pub longest_record_lem : length contracts ≡ 4 * 48 → length entries ≡ 8 * (48 * 48) → length (numbered_record n method contracts entries) ≡ longest_record
  longest_record_lem k h = omega (arith, numbered_length)

  pub numbered_fits : n ≤ 48 → length contracts ≡ 4 * n → length entries ≡ 8 * (n * n) → length (numbered_record n method contracts entries) ≤ longest_record
  numbered_fits s k h = omega (arith, numbered_length, square-small n s)

  abbrev numbers_part : Part
  numbers_part = record { start = 11; len = length contracts }

  abbrev entries_part : Part
  entries_part = record { start = 11 + length contracts + 3; len = length entries }

  abbrev numbered_parts : Parts
  numbered_parts = noted 0x03 entries_part (noted 0x04 numbers_part head_parts)

  abbrev pub numbered_request : Request
  numbered_request = record { size = n; method = method; numbers = Some numbers_part; entries = entries_part }

  module _ (hn : length contracts < 65536) (h : length entries < 65536) where
    numbered_walk : walk (numbered_record n method contracts entries) ≡ record { at = length (numbered_record n method contracts entries); stage = Done; parts = numbered_parts }
    unfolding numbered_record bytes
    numbered_walk =
        let b = numbered_record n method contracts entries in
        let before = head n method ++ field 0x04 contracts in
        let l : length before ≡ 11 + length contracts = omega arith in
        let third : three b ≡ record { at = 11 + length contracts; stage = EntriesDue; parts = noted 0x04 numbers_part head_parts } =
        ap (pass_field b 2) (head_walk n method b (field 0x04 contracts ++ field 0x03 entries) refl)
        ∙ field-passed b (head n method) contracts (field 0x03 entries) 0x04 hn refl 2 after_head refl refl in
        walk_steps b ∙ ap (pass_field b 3) third
        ∙ field-passed b before entries [] 0x03 h (rw append-nil) 3 _ (sym l) refl
        ∙ rw (numbered_length, l)

    pub numbered_request_lem : request (numbered_record n method contracts entries) ≡ numbered_request
    unfolding request numbered_record bytes
    numbered_request_lem = rw numbered_walk

    pub numbered_contracts : contracts_of (numbered_record n method contracts entries) ≡ contracts
    unfolding numbered_record bytes
    numbered_contracts = rw numbered_request_lem (take-append_seam contracts (field 0x03 entries))

    pub numbered_entries : entries_of (numbered_record n method contracts entries) ≡ entries
    unfolding numbered_record bytes
    numbered_entries =
        let before = head n method ++ field 0x04 contracts in
        let header : List ℕ = 0x03 ∷ bytes 2 (length entries) in
        let l : length (before ++ header) ≡ 11 + length contracts + 3 = rw length-append (omega arith) in
        let d : drop (11 + length contracts + 3) (numbered_record n method contracts entries) ≡ entries = ap (drop (11 + length contracts + 3)) (sym (append_assoc before header entries)) ∙ drop_at (before ++ header) entries (11 + length contracts + 3) l in
        rw numbered_request_lem (ap (take (length entries)) d ∙ take-length entries)

  pub numbered_well_formed : length (numbered_record n method contracts entries) ≤ longest_record → Accepted (check_record (length (numbered_record n method contracts entries)) (walk (numbered_record n method contracts entries)))
  numbered_well_formed h = exact-accepted (numbered_record n method contracts entries) numbered_parts (numbered_walk (omega (arith, numbered_length)) (omega (arith, numbered_length))) refl refl h

-- ---- bytes whose form passes
-- the field at a position, taken apart
module _ (b : List ℕ) (at : ℕ) (small : AllBelow 256 b) (whole : cut b at ≡ false) where
  pub field_at : drop at b ≡ field (get_or b at 0) (content_at b (part_at b at)) ++ drop (at + 3 + (part_at b at).len) b
  unfolding bytes
  field_at =
      let len = (part_at b at).len in
      let x = get_or b (at + 1) 0 in
      let y = get_or b (at + 2) 0 in
      let fits : at + 3 + len ≤ length b = not_cut b at whole in
      let l : len ≡ x + 256 * y = length-is b at (omega arith) in
      let low : len % 256 ≡ x = omega (arith, small (at + 1) (omega arith)) in
      let above : len / 256 ≡ y = omega (arith, small (at + 1) (omega arith)) in
      let high : len / 256 % 256 ≡ y = rw above (omega (arith, small (at + 2) (omega arith))) in
      let s = drop (at + 3) b in
      let content : length (take len s) ≡ len = length-take-le len s (simp length-drop (omega arith)) in
      let one : suc at ≡ at + 1 = omega arith in
      let two : suc (at + 1) ≡ at + 2 = omega arith in
      let three : suc (at + 2) ≡ at + 3 = omega arith in
      let head : drop at b ≡ get_or b at 0 ∷ x ∷ y ∷ s = drop-cons b at 0 (omega arith) ∙ rw (one, drop-cons b (at + 1) 0 (omega arith), two, drop-cons b (at + 2) 0 (omega arith), three) in
      head ∙ rw (content, low, high, ← drop-drop len (at + 3) b, take-append-drop len s)

-- a walk whose record's form passes passed all fields due
module _ (b : List ℕ) (A : Accepted (check_record (length b) (walk b))) where
  parts : Accepted (check_longest (length b)) × (Accepted (check_walk (walk b).stage) × Accepted (check_exact (walk b) (length b)))
  parts = let e = both_accepted _ _ A in let w = both_accepted _ _ e.0 in (w.0, (w.1, e.1))

  pub accepted_length : length b ≤ longest_record
  accepted_length = ltb-false longest_record (length b) (refuse-complete (ltb longest_record (length b)) MalformedRecord parts.0.is)

  walk-exact : exact (walk b) (length b) ≡ true
  walk-exact = not-false (exact (walk b) (length b)) (refuse-complete (not (exact (walk b) (length b))) MalformedRecord parts.1.1.is)

  exact-parts : ((walk b).parts.size.len ≡ 1) × (((walk b).parts.method.len ≡ 1) × ((walk b).at ≡ length b))
  exact-parts =
      let s = eqb (walk b).parts.size.len 1 in
      let m = eqb (walk b).parts.method.len 1 in
      let e = eqb (walk b).at (length b) in
      let r = and_2 s (m && e) walk-exact in
      (eqb-true (walk b).parts.size.len 1 (and_1 s (m && e) walk-exact), (eqb-true (walk b).parts.method.len 1 (and_1 m e r), eqb-true (walk b).at (length b) (and_2 m e r)))

  pub accepted_whole : Whole b
  accepted_whole = elim (walked b) [
    | all w ↦ w
    | cut_in i p e ↦ absurd (false≢true (rw e at parts.1.0.is))
    | tag_in i found p e ↦ absurd (false≢true (rw e at parts.1.0.is))
  ]

  abbrev W : Whole b
  W = accepted_whole

  size_length : (part_at b 0).len ≡ 1
  size_length = sym (ap (λ (p : Part). p.len) W.size_is) ∙ exact-parts.0

  one_is : one b ≡ record { at = 4; stage = MethodDue; parts = noted 0x01 (record { start = 3; len = 1 }) walk_start.parts }
  one_is = W.first.leads ∙ rw size_length

  method_length : (part_at b 4).len ≡ 1
  method_length =
      let e : part_at b (one b).at ≡ part_at b 4 = rw one_is refl in
      sym (ap (λ (p : Part). p.len) (W.method_is ∙ e)) ∙ exact-parts.1.0

  two_is : two b ≡ after_head
  two_is = W.second.leads ∙ rw (one_is, method_length)

  module _ (small : AllBelow 256 b) where
    -- a field passed, taken apart
    passed_field : (k : ℕ) (c : Cursor) (tag : ℕ) (next : Stage) → Passed b k c tag next → drop c.at b ≡ field tag (content_at b (part_at b c.at)) ++ drop (c.at + 3 + (part_at b c.at).len) b
    passed_field k c tag next P = field_at b c.at small P.whole ∙ rw P.tagged

    -- .. after which nothing stands
    last_field : (k : ℕ) (c : Cursor) (tag : ℕ) (next : Stage) → Passed b k c tag next → c.at + 3 + (part_at b c.at).len ≡ length b → drop c.at b ≡ field tag (content_at b (part_at b c.at))
    last_field k c tag next P e = passed_field k c tag next P ∙ rw (e, drop-length b) (append-nil (field tag (content_at b (part_at b c.at))))

    front : b ≡ head (get_or b 3 0) (get_or b 7 0) ++ drop 8 b
    unfolding bytes
    front =
        let at4 : (one b).at ≡ 4 = rw one_is refl in
        let room : 8 ≤ length b = omega (arith, not_cut b 4 (rw at4 at W.second.whole), method_length) in
        let n : take 1 (drop 3 b) ≡ get_or b 3 0 ∷ [] = take_more b 0 3 (omega (arith, room)) in
        let m : take 1 (drop 7 b) ≡ get_or b 7 0 ∷ [] = take_more b 0 7 (omega (arith, room)) in
        let f : b ≡ 0x01 ∷ 1 ∷ 0 ∷ get_or b 3 0 ∷ drop 4 b = field_at b 0 small W.first.whole ∙ rw (W.first.tagged, size_length, n) in
        let s : drop 4 b ≡ 0x02 ∷ 1 ∷ 0 ∷ get_or b 7 0 ∷ drop 8 b = field_at b 4 small (rw at4 at W.second.whole) ∙ rw (rw at4 at W.second.tagged, method_length, m) in
        f ∙ rw s

    plain_own : Passed b 2 (two b) 0x03 Done → b ≡ own_record b
    unfolding request matrix_record
    plain_own D =
        let w : walk b ≡ record { at = 11 + (part_at b 8).len; stage = Done; parts = noted 0x03 (part_at b 8) head_parts } =
        stops_three b (ap (λ (c : Cursor). nothing_due c.stage) D.leads) ∙ D.leads ∙ rw two_is in
        let end : 11 + (part_at b 8).len ≡ length b = ap (λ (c : Cursor). c.at) (sym w) ∙ exact-parts.1.1 in
        let d : drop 8 b ≡ field 0x03 (content_at b (part_at b 8)) = last_field 2 after_head 0x03 Done (rw two_is at D) end in
        front ∙ rw (w, d)

    numbered_own : Passed b 2 (two b) 0x04 EntriesDue → Passed b 3 (three b) 0x03 Done → b ≡ own_record b
    unfolding request numbered_record
    numbered_own N D =
        let len = (part_at b 8).len in
        let t : three b ≡ record { at = 11 + len; stage = EntriesDue; parts = noted 0x04 (part_at b 8) head_parts } = N.leads ∙ rw two_is in
        let w : walk b ≡ record { at = 11 + len + 3 + (part_at b (11 + len)).len; stage = Done; parts = noted 0x03 (part_at b (11 + len)) (noted 0x04 (part_at b 8) head_parts) } =
        walk_steps b ∙ D.leads ∙ rw t in
        let end : 11 + len + 3 + (part_at b (11 + len)).len ≡ length b = ap (λ (c : Cursor). c.at) (sym w) ∙ exact-parts.1.1 in
        let n : drop 8 b ≡ field 0x04 (content_at b (part_at b 8)) ++ drop (11 + len) b = passed_field 2 after_head 0x04 EntriesDue (rw two_is at N) in
        let d : drop (11 + len) b ≡ field 0x03 (content_at b (part_at b (11 + len))) = last_field 3 _ 0x03 Done (rw t at D) end in
        front ∙ rw (w, n, d)

    pub well_formed_is : b ≡ own_record b
    well_formed_is = elim W.rest [ entries-alone D ↦ plain_own D | numbers-first N D ↦ numbered_own N D ]
