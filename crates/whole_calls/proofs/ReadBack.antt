-- An answer record read back gives the answer: its fields, and then the result, whole where it is complete, and without L, e and p where it
-- is refused; a refusal's count of inexact roots is 0.
use mathlib.Core.Path.{◌≡◌, refl, sym, ap, ◌∙◌}
use mathlib.Core.Bool.{true, false, cond}
use mathlib.Core.List.{List, [], ◌∷◌, ◌++◌, append_assoc, append-nil}
use Prim.Native.Nat.{ℕ, ◌≤◌}
use native.Mathlib.Omega.{arith}
use borrow.Author.Tests.{ne_eqb}
use lib.ListN.{length, length-append}
use Rattle.arithmetic.specs.Outcome.{number, place, complete, Outcome}
use Rattle.arithmetic.proofs.OutcomeLaws.{complete-is}
use Rattle.std.specs.Prelude.{Ok, None, Some, Err}
use Rattle.arithmetic.specs.declared.refusal.Refusal.TheVariants.{MalformedRecord, UnknownMethod, SizeOutOfRange, MatrixLength, BufferLength, IndexOutOfRange, NotFinite, Unsymmetric, StoredNotFinite, FieldPastEnd, TagNotDue, NumbersLength, NumberRepeated, ListLength, ZeroDiagonal}
use Rattle.methods.specs.Result.{Result}
use Rattle.methods.specs.Marks.{Mark}
use Rattle.encoding.specs.Bytes.{bytes, doubles, double_bytes}
use Rattle.answer_record.specs.Field.{field}
use Rattle.answer_record.specs.AnswerRecord.{step_byte, marks_fields, count_field, factor_fields, place_field, answer_record}
use Rattle.answer_record.specs.Writing.{StepFits, Fits, result_with}
use Rattle.whole_calls.specs.ReadBack.{Field, split, outcome_read, mark_read, result_read, read_answer}
use Rattle.encoding.proofs.ByteLaws.{length-content}
use Rattle.answer_record.proofs.WriteFields.{length-marks}
use Rattle.arithmetic.specs.DoubleList.{AllDoubles}
use Rattle.encoding.proofs.Content.{doubles-content}
use Rattle.whole_calls.proofs.ReadFields.{join, Short, split-join}

abbrev pub field_of : ℕ → List ℕ → Field
field_of tag content = record { tag = tag; content = content }

-- 11, 12, 13, then the rest
abbrev pub with_marks : Result → List Field → List Field
with_marks r rest =
    field_of 0x11 (number r.decomposition.outcome ∷ []) ∷ field_of 0x12 (step_byte r.decomposition.tied ∷ []) ∷ field_of 0x13 (step_byte r.decomposition.phase2 ∷ []) ∷ rest

abbrev pub complete_fields : Result → List Field
complete_fields r = with_marks r (field_of 0x18 (r.decomposition.inexact ∷ []) ∷ field_of 0x14 r.p ∷ field_of 0x15 (double_bytes r.e) ∷ field_of 0x16 (double_bytes r.l) ∷ [])

abbrev pub refused_fields : Result → List Field
refused_fields r = let at = place r.decomposition.outcome in with_marks r (field_of 0x17 (at.row ∷ at.column ∷ []) ∷ [])

joined : (a b c : List ℕ) → a ++ b ++ c ≡ a ++ (b ++ (c ++ []))
joined a b c = append_assoc a b c ∙ ap (λ (x : List ℕ). a ++ (b ++ x)) (sym (append-nil c))

module _ (r : Result) where
  complete-join : complete r.decomposition.outcome ≡ true → answer_record r ≡ join (complete_fields r)
  unfolding answer_record marks_fields count_field factor_fields join bytes
  complete-join c = rw c (ap (λ (x : List ℕ). marks_fields r.decomposition ++ (count_field r.decomposition.inexact ++ x)) (joined (field 0x14 r.p) (field 0x15 (double_bytes r.e)) (field 0x16 (double_bytes r.l))))

  refused-join : complete r.decomposition.outcome ≡ false → answer_record r ≡ join (refused_fields r)
  unfolding answer_record marks_fields place_field join bytes
  refused-join c = rw c

  longer : 12 ≤ length (answer_record r)
  unfolding answer_record
  longer =
      let rest = cond (complete r.decomposition.outcome) (count_field r.decomposition.inexact ++ factor_fields r.p r.e r.l) (place_field (place r.decomposition.outcome)) in
      omega (arith, length-append (marks_fields r.decomposition) rest, length-marks r.decomposition)

  -- the fields of a record that holds
  fields_of : (fs : List Field) → answer_record r ≡ join fs → Short fs → length fs ≤ 12 → split (length (answer_record r)) (answer_record r) ≡ fs
  fields_of fs e s h = ap (split (length (answer_record r))) e ∙ split-join fs (length (answer_record r)) s (omega (arith, longer))

  module _ (f : Fits r) where
    pub complete-fields : complete r.decomposition.outcome ≡ true → split (length (answer_record r)) (answer_record r) ≡ complete_fields r
    complete-fields c =
        fields_of (complete_fields r) (complete-join c)
        (omega arith, (omega arith, (omega arith, (omega arith, (omega arith, (omega (arith, length-content r.e), (omega (arith, length-content r.l), tt))))))) (omega arith)

    pub refused-fields : complete r.decomposition.outcome ≡ false → split (length (answer_record r)) (answer_record r) ≡ refused_fields r
    refused-fields c = fields_of (refused_fields r) (refused-join c) (omega arith, (omega arith, (omega arith, (omega arith, tt)))) (omega arith)

-- ---- what a number and a byte name
outcome-read : (o : Outcome) → outcome_read (number o) (place o).row (place o).column ≡ o
outcome-read (Ok _) = refl
outcome-read (Err MalformedRecord) = refl
outcome-read (Err UnknownMethod) = refl
outcome-read (Err SizeOutOfRange) = refl
outcome-read (Err MatrixLength) = refl
outcome-read (Err BufferLength) = refl
outcome-read (Err (IndexOutOfRange position)) = refl
outcome-read (Err (NotFinite row column)) = refl
outcome-read (Err (Unsymmetric row column)) = refl
outcome-read (Err (StoredNotFinite step)) = refl
outcome-read (Err (FieldPastEnd field)) = refl
outcome-read (Err (TagNotDue field)) = refl
outcome-read (Err NumbersLength) = refl
outcome-read (Err (NumberRepeated position)) = refl
outcome-read (Err ListLength) = refl
outcome-read (Err (ZeroDiagonal row)) = refl

mark-read : (m : Mark) → StepFits m → mark_read (step_byte m) ≡ m
mark-read None h = refl
mark-read (Some j) h = rw (ne_eqb j 0xff (λ e. omega (arith, h j refl)))

-- ---- the theorems
module _ (r : Result) (f : Fits r) where
  pub read_complete : complete r.decomposition.outcome ≡ true → AllDoubles r.e → AllDoubles r.l → read_answer (answer_record r) ≡ r
  unfolding read_answer
  read_complete c de dl =
      let o : outcome_read (number r.decomposition.outcome) 0 0 ≡ r.decomposition.outcome = rw (complete-is r.decomposition.outcome c) in
      ap result_read (complete-fields r f c)
      ∙ rw (o, mark-read r.decomposition.tied f.marks.0, mark-read r.decomposition.phase2 f.marks.1, doubles-content r.e de, doubles-content r.l dl)

  pub read_refused : complete r.decomposition.outcome ≡ false → r.decomposition.inexact ≡ 0 → read_answer (answer_record r) ≡ result_with r.decomposition [] [] []
  unfolding read_answer doubles
  read_refused c k =
      ap result_read (refused-fields r f c)
      ∙ rw (k, outcome-read r.decomposition.outcome, mark-read r.decomposition.tied f.marks.0, mark-read r.decomposition.phase2 f.marks.1)
