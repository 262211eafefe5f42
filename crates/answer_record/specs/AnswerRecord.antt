-- What bytes an answer is.
use Rattle.std.specs.Prelude.{List, [], ◌∷◌, ◌++◌, cond, ℕ, Float}
use Rattle.arithmetic.specs.Outcome.{number, place, complete}
use Rattle.arithmetic.specs.declared.refusal.Place.{Place}
use Rattle.methods.specs.Result.{Result}
use Rattle.methods.specs.declared.decomposition.Decomposition.{Decomposition}
use Rattle.methods.specs.Marks.{Mark}
use Rattle.std.specs.Prelude.{None, Some}
use Rattle.encoding.specs.Bytes.{bytes, double_bytes}
use Rattle.answer_record.specs.Field.{field}

-- the most bytes: n = 48
abbrev pub longest_answer : ℕ
longest_answer = 18889

-- a step, FF for none
abbrev pub step_byte : Mark → ℕ
step_byte None = 0xff
step_byte (Some j) = j

-- 11 refusal number or 00, 12 tied step, 13 phase-two step
unfoldable pub marks_fields : Decomposition → List ℕ
unfolding bytes
marks_fields d = field 0x11 (number d.outcome ∷ []) ++ field 0x12 (step_byte d.tied ∷ []) ++ field 0x13 (step_byte d.phase2 ∷ [])

-- 18 count of inexact roots
unfoldable pub count_field : ℕ → List ℕ
unfolding bytes
count_field inexact = field 0x18 (inexact ∷ [])

-- 14 p, 15 e, 16 L
unfoldable pub factor_fields : List ℕ → List Float → List Float → List ℕ
unfolding bytes double_bytes
factor_fields p e l = field 0x14 p ++ field 0x15 (double_bytes e) ++ field 0x16 (double_bytes l)

-- 17 place
unfoldable pub place_field : Place → List ℕ
unfolding bytes
place_field at = field 0x17 (at.row ∷ at.column ∷ [])

unfoldable pub answer_record : Result → List ℕ
unfolding marks_fields count_field factor_fields place_field
answer_record r = let outcome = r.decomposition.outcome in
    marks_fields r.decomposition ++ cond (complete outcome) (count_field r.decomposition.inexact ++ factor_fields r.p r.e r.l) (place_field (place outcome))
