-- What fits an answer record.
use Rattle.std.specs.Prelude.{◌≡◌, List, ℕ, ◌≤◌, ◌<◌, length, Float}
use Rattle.arithmetic.specs.Outcome.{place}
use Rattle.arithmetic.specs.declared.refusal.Place.{Place}
use Rattle.matrix.specs.Plain.{AllBelow}
use Rattle.encoding.specs.Writing.{over, EachFinite}
use Rattle.methods.specs.Result.{Result}
use Rattle.methods.specs.declared.decomposition.Decomposition.{Decomposition}
use Rattle.methods.specs.Marks.{Mark}
use Rattle.std.specs.Prelude.{Some}

-- xs now stands at the front of the buffer, and len is its length
abbrev pub Front : List ℕ → List ℕ → List ℕ → ℕ → Type 0
Front xs out out' len = (out' ≡ over out 0 xs) × (len ≡ length xs)

-- a step that one byte holds beside FF
abbrev pub StepFits : Mark → Type 0
StepFits m = (j : ℕ) → m ≡ Some j → j < 0xff

abbrev pub MarksFit : Decomposition → Type 0
MarksFit d = StepFits d.tied × StepFits d.phase2

abbrev pub PlaceFits : Place → Type 0
PlaceFits at = (at.row < 256) × (at.column < 256)

abbrev pub result_with : Decomposition → List Float → List Float → List ℕ → Result
result_with d l e p = record { decomposition = d; l = l; e = e; p = p }

-- at most 18,889 bytes hold it
pub record Fits (r : Result) : Type 0 where
  pub marks : MarksFit r.decomposition
  pub placed : PlaceFits (place r.decomposition.outcome)
  pub count : r.decomposition.inexact < 256
  pub order : AllBelow 256 r.p
  pub amounts : EachFinite r.e
  pub factor : EachFinite r.l
  pub order_length : length r.p ≤ 48
  pub amounts_length : length r.e ≤ 48
  pub factor_length : length r.l ≤ 2304
