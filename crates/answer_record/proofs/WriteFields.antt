-- The fields of an answer record, written in turn.
use mathlib.Core.Path.{◌≡◌, refl, ap, ◌∙◌}
use mathlib.Core.Bool.{true, false}
use mathlib.Core.List.{List, [], ◌∷◌, ◌++◌}
use Prim.Native.Nat.{ℕ, suc, ◌+◌, ◌*◌, ◌/◌, ◌%◌, ◌≤◌, ◌<◌}
use native.Mathlib.Omega.{arith}
use lib.ListN.{length, length-append}
use lib.Ieee.{Float}
use Rattle.arithmetic.specs.Outcome.{number, place, complete}
use Rattle.arithmetic.specs.declared.refusal.Place.{Place}
use Rattle.methods.specs.Result.{Result}
use Rattle.methods.specs.declared.decomposition.Decomposition.{Decomposition}
use Rattle.encoding.specs.Bytes.{bytes, double_bytes}
use Rattle.answer_record.specs.Field.{field}
use Rattle.answer_record.specs.AnswerRecord.{step_byte, marks_fields, count_field, factor_fields, place_field, answer_record}
use Rattle.encoding.specs.Writing.{over, Wrote}
use Rattle.answer_record.specs.Writing.{Front, result_with}
use Rattle.encoding.proofs.ByteLaws.{length-bytes, length-content}
use Rattle.encoding.proofs.Over.{length_over, over-then}

pub head_written : (out a b r : List ℕ) (at p q next tag len : ℕ) → at + 3 ≤ length out → len < 65536
    → (a ≡ over out at (tag ∷ [])) × (p ≡ at + 1) → (b ≡ over a p (len % 256 ∷ [])) × (q ≡ p + 1) → (r ≡ over b q (len / 256 ∷ [])) × (next ≡ q + 1)
    → (r ≡ over out at (tag ∷ bytes 2 len)) × (next ≡ at + 3)
unfolding bytes
head_written out a b r at p q next tag len f h u v w =
    let small : len / 256 % 256 ≡ len / 256 = omega arith in
    rw small (over-then out b r at q next 2 1 (tag ∷ len % 256 ∷ []) (len / 256 ∷ []) refl refl f (over-then out a b at p q 1 1 (tag ∷ []) (len % 256 ∷ []) refl refl (omega arith) u v) w)

-- a field: head, then content
pub field-written : (out a r : List ℕ) (at p next tag len : ℕ) (xs : List ℕ)
    → (a ≡ over out at (tag ∷ bytes 2 len)) × (p ≡ at + 3) → (r ≡ over a p xs) × (next ≡ p + len) → length xs ≡ len → at + (3 + len) ≤ length out
    → (r ≡ over out at (field tag xs)) × (next ≡ at + (3 + len))
field-written out a r at p next tag len xs u v e h =
    rw e (over-then out a r at p next 3 len (tag ∷ bytes 2 len) xs (ap suc (length-bytes 2 len)) e h u v)

pub marks-written : (out a b r : List ℕ) (p q next u v w : ℕ) (d : Decomposition) → 12 ≤ length out
    → u ≡ number d.outcome → v ≡ step_byte d.tied → w ≡ step_byte d.phase2
    → (a ≡ over out 0 (field 0x11 (u ∷ []))) × (p ≡ 0 + 4) → (b ≡ over a p (field 0x12 (v ∷ []))) × (q ≡ p + 4) → (r ≡ over b q (field 0x13 (w ∷ []))) × (next ≡ q + 4)
    → (r ≡ over out 0 (marks_fields d)) × (next ≡ 12)
unfolding marks_fields bytes
marks-written out a b r p q next u v w d h eu ev ew x y z =
    rw (← eu, ← ev, ← ew) (over-then out b r 0 q next 8 4 (field 0x11 (u ∷ []) ++ field 0x12 (v ∷ [])) (field 0x13 (w ∷ [])) refl refl h
    (over-then out a b 0 p q 4 4 (field 0x11 (u ∷ [])) (field 0x12 (v ∷ [])) refl refl (omega arith) x y) z)

pub length-field : (tag : ℕ) (xs : List ℕ) → length (field tag xs) ≡ 3 + length xs
unfolding bytes
length-field tag xs = omega arith

pub length-factor : (p : List ℕ) (e l : List Float) → length (factor_fields p e l) ≡ 9 + length p + 8 * length e + 8 * length l
unfolding factor_fields
length-factor p e l =
    let two = field 0x14 p ++ field 0x15 (double_bytes e) in
    let last = field 0x16 (double_bytes l) in
    length-append two last
    ∙ omega (arith, length-append (field 0x14 p) (field 0x15 (double_bytes e)), length-field 0x14 p, length-field 0x15 (double_bytes e), length-field 0x16 (double_bytes l), length-content e, length-content l)

pub place-written : (out a b r : List ℕ) (at p q next : ℕ) (t : Place) → at + 5 ≤ length out
    → (a ≡ over out at (0x17 ∷ bytes 2 2)) × (p ≡ at + 3) → (b ≡ over a p (t.row ∷ [])) × (q ≡ p + 1) → (r ≡ over b q (t.column ∷ [])) × (next ≡ q + 1)
    → (r ≡ over out at (place_field t)) × (next ≡ at + 5)
unfolding place_field bytes
place-written out a b r at p q next t h x y z =
    over-then out b r at q next 4 1 (0x17 ∷ bytes 2 2 ++ (t.row ∷ [])) (t.column ∷ []) refl refl h
    (over-then out a b at p q 3 1 (0x17 ∷ bytes 2 2) (t.row ∷ []) refl refl (omega arith) x y) z

pub factor-written : (out a b c : List ℕ) (at s t next : ℕ) (p : List ℕ) (e l : List Float)
    → (a ≡ over out at (field 0x14 p)) × (s ≡ at + (3 + length p)) → (b ≡ over a s (field 0x15 (double_bytes e))) × (t ≡ s + (3 + 8 * length e))
    → (c ≡ over b t (field 0x16 (double_bytes l))) × (next ≡ t + (3 + 8 * length l)) → at + length (factor_fields p e l) ≤ length out → Wrote (factor_fields p e l) at out c next
unfolding factor_fields
factor-written out a b c at s t next p e l x y z h =
    let order = field 0x14 p in
    let amounts = field 0x15 (double_bytes e) in
    let factor = field 0x16 (double_bytes l) in
    let k : length order ≡ 3 + length p = length-field 0x14 p in
    let m : length amounts ≡ 3 + 8 * length e = length-field 0x15 (double_bytes e) ∙ ap (λ (k : ℕ). 3 + k) (length-content e) in
    let n : length factor ≡ 3 + 8 * length l = length-field 0x16 (double_bytes l) ∙ ap (λ (k : ℕ). 3 + k) (length-content l) in
    let two : length (order ++ amounts) ≡ length order + length amounts = length-append order amounts in
    let all : length (order ++ amounts ++ factor) ≡ length (order ++ amounts) + length factor = length-append (order ++ amounts) factor in
    let w = over-then out b c at t next (length (order ++ amounts)) (3 + 8 * length l) (order ++ amounts) factor refl n (omega arith)
    (rw two (over-then out a b at s t (length order) (length amounts) order amounts refl refl (omega arith) (x.0, omega arith) (y.0, omega arith))) z in
    (w.0, omega arith)

pub length-marks : (d : Decomposition) → length (marks_fields d) ≡ 12
unfolding marks_fields bytes
length-marks d = refl

pub length-place : (t : Place) → length (place_field t) ≡ 5
unfolding place_field bytes
length-place t = refl

pub length-count : (inexact : ℕ) → length (count_field inexact) ≡ 4
unfolding count_field bytes
length-count inexact = refl

-- what follows the marks of a complete answer
abbrev pub complete_fields : Result → List ℕ
complete_fields r = count_field r.decomposition.inexact ++ factor_fields r.p r.e r.l

pub length-complete_fields : (r : Result) → length (complete_fields r) ≡ 13 + length r.p + 8 * length r.e + 8 * length r.l
length-complete_fields r = length-append (count_field r.decomposition.inexact) (factor_fields r.p r.e r.l) ∙ omega (arith, length-count r.decomposition.inexact, length-factor r.p r.e r.l)

-- the marks, then the rest
rest-written : (out a r : List ℕ) (at next : ℕ) (d : Decomposition) (ys : List ℕ) → (a ≡ over out 0 (marks_fields d)) × (at ≡ 12) → Wrote ys at a r next
    → 12 + length ys ≤ length out → Front (marks_fields d ++ ys) out r next
rest-written out a r at next d ys x y h =
    let w = over-then out a r 0 at next 12 (length ys) (marks_fields d) ys (length-marks d) refl (omega arith) x y in
    (w.0, omega (arith, length-append (marks_fields d) ys, length-marks d))

module _ (out a c : List ℕ) (at next : ℕ) (r : Result) (x : (a ≡ over out 0 (marks_fields r.decomposition)) × (at ≡ 12)) where
  pub complete-written : (b : List ℕ) (s : ℕ) → (b ≡ over a at (field 0x18 (r.decomposition.inexact ∷ []))) × (s ≡ at + 4) → Wrote (factor_fields r.p r.e r.l) s b c next
      → complete r.decomposition.outcome ≡ true → 12 + length (complete_fields r) ≤ length out → Front (answer_record r) out c next
  unfolding answer_record count_field
  complete-written b s y z g h =
      let xs = count_field r.decomposition.inexact in
      let ys = factor_fields r.p r.e r.l in
      let e : length (complete_fields r) ≡ 4 + length ys = length-append xs ys ∙ omega (arith, length-count r.decomposition.inexact) in
      let k : length a ≡ length out = ap length x.0 ∙ length_over out 0 (marks_fields r.decomposition) (omega (arith, length-marks r.decomposition)) in
      let w = over-then a b c at s next 4 (length ys) xs ys (length-count r.decomposition.inexact) refl (omega (arith, x.1)) y z in
      rw g (rest-written out a c at next r.decomposition (complete_fields r) x (w.0, omega arith) h)

  pub refused-written : (t : Place) → t ≡ place r.decomposition.outcome → (c ≡ over a at (place_field t)) × (next ≡ at + 5) → complete r.decomposition.outcome ≡ false → 17 ≤ length out
      → Front (answer_record r) out c next
  unfolding answer_record
  refused-written t q y g h =
      let n : length (place_field t) ≡ 5 = length-place t in
      rw (g, ← q) (rest-written out a c at next r.decomposition (place_field t) x (y.0, omega arith) (omega arith))

-- a refusal's record holds nothing of L, e and p
pub refused-alike : (d : Decomposition) (l l' e e' : List Float) (p p' : List ℕ) → complete d.outcome ≡ false → answer_record (result_with d l e p) ≡ answer_record (result_with d l' e' p')
unfolding answer_record
refused-alike d l l' e e' p p' c = rw c
