-- Document 01's promises about every result that a run hands back, complete or refused, with contract numbers or without: no amount is
-- negative, p is a permutation, L is finite with +0.0 above the diagonal, amounts and entries of L are doubles, and every step that is
-- reported is a step; and every d that GMW81 stored is at least 2^-52. Of document 02's count of inexact roots: at most n, 0 where refused.
-- Proved as `results`, `counts` (proofs/Theorem.antt) and `d_results` (proofs/BoundsGmw81.antt).
use Rattle.std.specs.Prelude.{◌≡◌, true, false, List, ℕ, ◌*◌, ◌<◌, ◌≤◌, length, get_or, Float, Some, Err}
use Rattle.std.specs.Float.{nan}
use Rattle.std.specs.Float.Ieee.{lt}
use Rattle.std.specs.Float.Ieee.Scale.{finite}
use Rattle.arithmetic.specs.AtLeast.{AtLeast}
use Rattle.arithmetic.specs.Double.{plus_zero, epsilon}
use Rattle.arithmetic.specs.DoubleList.{AllDoubles}
use Rattle.arithmetic.specs.Outcome.{complete}
use Rattle.arithmetic.specs.declared.refusal.Refusal.TheVariants.{StoredNotFinite}
use Rattle.matrix.specs.Matrix.{at}
use Rattle.methods.specs.AcceptedMatrix.{AcceptedMatrix}
use Rattle.methods.specs.Reloading.{LoadOrder}
use Rattle.methods.specs.Result.{Result}
use Rattle.methods.specs.Factor.{factor, tolerances}
use Rattle.methods.specs.Gmw81.{run}
use Rattle.methods.specs.declared.method.Method.{Method}
use Rattle.methods.specs.declared.schnabel_eskow.Tolerances.{Tolerances}
use Rattle.methods.specs.declared.decomposition.Decomposition.{Decomposition}
use Rattle.methods.specs.Marks.{Mark}

-- e[r] is a finite number that is not negative
pub record Amounts (n : ℕ) (e : List Float) : Type 0 where
  pub len : length e ≡ n
  pub finite_amounts : (r : ℕ) → r < n → finite (get_or e r nan) ≡ true
  pub not_negative : (r : ℕ) → r < n → lt (get_or e r nan) plus_zero ≡ false

-- finite, +0.0 above the diagonal
pub record LowerFactor (n : ℕ) (l : List Float) : Type 0 where
  pub len : length l ≡ n * n
  pub finite_entries : (i j : ℕ) → i < n → j < n → finite (at n l i j) ≡ true
  pub upper : (i j : ℕ) → i < j → j < n → at n l i j ≡ plus_zero

-- every step that is reported is a step: GMW81's scaling counts as step n
pub record MarksBelow (n : ℕ) (d : Decomposition) : Type 0 where
  pub tied_below : (j : ℕ) → d.tied ≡ Some j → j < n
  pub phase2_below : (j : ℕ) → d.phase2 ≡ Some j → j < n
  pub refused_below : (j : ℕ) → d.outcome ≡ Err (StoredNotFinite j) → j ≤ n

-- the count of inexact roots
pub record Count (n : ℕ) (d : Decomposition) : Type 0 where
  pub most : d.inexact ≤ n
  pub refused : complete d.outcome ≡ false → d.inexact ≡ 0

pub record Sound (n : ℕ) (r : Result) : Type 0 where
  pub amounts : Amounts n r.e
  pub lower : LowerFactor n r.l
  pub doubles : AllDoubles r.l × AllDoubles r.e
  -- p lists 0 to n - 1, each once, as a load order does
  pub permutation : LoadOrder n r.p
  pub marks : MarksBelow n r.decomposition
  pub count : Count n r.decomposition

-- of every run, whatever its matrix, numbers and tolerances
abbrev pub CountTheorem : Type 0
CountTheorem = (method : Method) (t : Tolerances) (numbers : List ℕ) (n : ℕ) (a : List Float) → Count n (factor method t numbers n a).decomposition

abbrev pub ResultsTheorem : Type 0
ResultsTheorem = (method : Method) (numbers : List ℕ) (n : ℕ) (a : List Float) → 0 < n → AcceptedMatrix n a → Sound n (factor method tolerances numbers n a)

-- step j was taken: it is not after the refused step, which stores its values too
abbrev pub Taken : ℕ → Mark → Type 0
Taken j refused = (k : ℕ) → refused ≡ Some k → j ≤ k

-- d[j] of every step that was taken, also in a refused run
abbrev pub DTheorem : Type 0
DTheorem = (numbers : List ℕ) (n : ℕ) (a : List Float) → 0 < n → AcceptedMatrix n a → (j : ℕ) → j < n → Taken j (run numbers n a).progress.refused → AtLeast epsilon (get_or (run numbers n a).d j nan)
