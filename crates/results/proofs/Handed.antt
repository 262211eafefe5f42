-- What a run hands back is sound where its values at the end are, or it was refused.
use mathlib.Core.Path.{◌≡◌, refl, sym}
use mathlib.Core.Bool.{false, false≢true}
use mathlib.Core.List.{List}
use Prim.Native.Nat.{ℕ, ◌*◌, ◌≤◌}
use native.Mathlib.Omega.{arith}
use lib.Ieee.{Float}
use Rattle.arithmetic.specs.Outcome.{complete}
use Rattle.methods.specs.Reloading.{LoadOrder}
use Rattle.methods.specs.Result.{identity, outcome_of, filled_order, filled_count, reported, hand_back}
use Rattle.methods.specs.Marks.{Mark}
use Rattle.std.specs.Prelude.{None, Some}
use Rattle.methods.specs.declared.progress.Progress.{Progress}
use Rattle.methods.proofs.Pivots.{Permuted, permuted_order, identity-permuted}
use Rattle.results.specs.Results.{Amounts, LowerFactor, Count, Sound}
use Rattle.results.proofs.AmountsLists.{filled-amounts}
use Rattle.results.proofs.LowerTriangle.{filled-lower}
use Rattle.results.proofs.DoubleEntries.{each_all, filled-doubles}
use Rattle.results.proofs.DoubleRuns.{DoublesEnd}
use Rattle.results.proofs.Marks.{ProgressBelow, reported-marks}

filled-order : (m : Mark) (n : ℕ) (p : List ℕ) → Permuted n p → LoadOrder n (filled_order m n p)
filled-order None n p P = permuted_order n p P
filled-order (Some j) n p P = permuted_order n (identity n) (identity-permuted n)

-- ---- 0 where the run was refused
filled-most : (m : Mark) (n inexact : ℕ) → inexact ≤ n → filled_count m inexact ≤ n
filled-most None n inexact h = h
filled-most (Some j) n inexact h = omega arith

filled_none : (m : Mark) (inexact : ℕ) → complete (outcome_of m) ≡ false → filled_count m inexact ≡ 0
filled_none None inexact h = absurd (false≢true (sym h))
filled_none (Some j) inexact h = refl

pub reported-count : (n : ℕ) (r : Progress) → r.inexact ≤ n → Count n (reported r)
reported-count n r h = record { most = filled-most r.refused n r.inexact h; refused = filled_none r.refused r.inexact }

-- a run's progress, factor, amounts and pivots at its end
pub record SoundEnd (n : ℕ) (r : Progress) (l e : List Float) (p : List ℕ) : Type 0 where
  pub amounts : r.refused ≡ None → Amounts n e
  pub lower : r.refused ≡ None → LowerFactor n l
  pub doubles : r.refused ≡ None → DoublesEnd l e
  pub permuted : Permuted n p
  pub marks : ProgressBelow n r
  pub count : r.inexact ≤ n

pub handed-sound : (n : ℕ) (r : Progress) (l e : List Float) (p : List ℕ) → SoundEnd n r l e p → Sound n (hand_back n r l e p)
handed-sound n r l e p E = record {
  amounts = filled-amounts r.refused n e E.amounts;
  lower = filled-lower r.refused n l E.lower;
  doubles = (each_all _ (filled-doubles r.refused (n * n) l (λ e. (E.doubles e).factor)), each_all _ (filled-doubles r.refused n e (λ e. (E.doubles e).amounts)));
  permutation = filled-order r.refused n p E.permuted;
  marks = reported-marks n r E.marks;
  count = reported-count n r E.count;
}
