-- What every step of GMW81 keeps, the steps keep; and what the end of a run leaves.
use mathlib.Core.Path.{◌≡◌, refl}
use mathlib.Core.Bool.{Bool, true}
use mathlib.Core.List.{List}
use Prim.Native.Nat.{ℕ, suc, ◌+◌, ◌<◌}
use native.Mathlib.Omega.{arith}
use lib.Ieee.{Float}
use Rattle.arithmetic.specs.Double.{◌⊖◌}
use Rattle.arithmetic.specs.Loop.{range}
use Rattle.arithmetic.proofs.LoopLaws.{range-ind}
use Rattle.matrix.specs.Matrix.{at}
use Rattle.arithmetic.proofs.Cases.{Is, is, holds, fails}
use Rattle.methods.specs.Marks.{marked}
use Rattle.methods.specs.Progress.{stopped}
use Rattle.methods.specs.Statements.{pivot_matrix}
use Rattle.methods.specs.Gmw81.{Run, start, divide_row, update_diagonal, c₂Of, dj_of, stored_finite, step_at, step, finish, run, stepped}
use Rattle.std.specs.Prelude.{None}
use Rattle.methods.proofs.GmwLaws.{started_is, step-at_is, step_stays, step-goes, finish-stays, finish-order}
use Rattle.methods.proofs.Pivots.{diagonal-below, Permuted, identity-permuted, pivot-permuted}
use Rattle.methods.proofs.Refused.{NotRefused, goes_on, unmarked_never}

-- ---- P j holds before step j: of a run that the step changes, and of a refused one
pub record KeptBySteps (n : ℕ) (delta beta : Float) (P : ℕ → Run → Type 0) : Type 0 where
  pub by_step : (j k : ℕ) (tie : Bool) (s : Run) → j < n → j + k < n → P j s → P (suc j) (step_at n delta beta j k tie s)
  pub refused : (j : ℕ) (s : Run) → marked s.progress.refused ≡ true → P j s → P (suc j) s

module _ (numbers : List ℕ) (n : ℕ) (delta beta : Float) (P : ℕ → Run → Type 0) (K : KeptBySteps n delta beta P) where
  -- GMW81 has no phase two, so a run that stopped was refused
  record Kept (j : ℕ) (s : Run) : Type 0 where
    one-phase : s.progress.phase2 ≡ None
    kept : P j s

  step_keeps : (j : ℕ) (s : Run) → j < n → Kept j s → Kept (suc j) (step numbers n delta beta j s)
  step_keeps j s pj b = go (is (stopped s.progress))
    where
      go : Is (stopped s.progress) → Kept (suc j) (step numbers n delta beta j s)
      go (holds h) = rw (step_stays numbers n delta beta j s h) (record { one-phase = b.one-phase; kept = K.refused j s (rw b.one-phase at h) b.kept })
      go (fails h) = rw (step-goes numbers n delta beta j s h) (record { one-phase = rw step-at_is b.one-phase; kept = K.by_step j _ _ s pj (diagonal-below numbers s.p true n j s.c pj) b.kept })

  pub steps_keep : (a : List Float) → P 0 (start n a) → P n (range 0 n (step numbers n delta beta) (start n a))
  steps_keep a b =
      (range-ind Kept 0 n (step numbers n delta beta) (start n a) (omega arith) (record { one-phase = rw started_is refl; kept = b }) (λ j p q s h. step_keeps j s q h)).kept

-- p is a permutation throughout
permuted_kept : (n : ℕ) (delta beta : Float) → KeptBySteps n delta beta (λ j s. Permuted n s.p)
permuted_kept n delta beta = record { by_step = λ j k tie s h hk P. rw step-at_is (pivot-permuted n j k s.p hk P); refused = λ j s h P. P }

pub steps_permuted : (numbers : List ℕ) (n : ℕ) (delta beta : Float) (a : List Float) → Permuted n (range 0 n (step numbers n delta beta) (start n a)).p
steps_permuted numbers n delta beta a = steps_keep numbers n delta beta (λ j s. Permuted n s.p) (permuted_kept n delta beta) a (rw started_is (identity-permuted n))

-- ---- the values of a step with the pivot k, named as in step_at, and what was tested where nothing is refused
abbrev pub l₂Of : ℕ → ℕ → ℕ → Run → List Float
l₂Of n j k s = divide_row n j (pivot_matrix n j k s.c) s.d (pivot_matrix n j k s.l)

abbrev pub step_d : ℕ → Float → Float → ℕ → ℕ → Run → Float
step_d n delta beta j k s = dj_of n delta beta j (c₂Of n j k s.l s.c s.d)

abbrev pub c₃Of : ℕ → Float → Float → ℕ → ℕ → Run → List Float
c₃Of n delta beta j k s = update_diagonal n j (step_d n delta beta j k s) (c₂Of n j k s.l s.c s.d)

abbrev pub step_e : ℕ → Float → Float → ℕ → ℕ → Run → Float
step_e n delta beta j k s = step_d n delta beta j k s ⊖ at n (c₃Of n delta beta j k s) j j

abbrev pub step_test : ℕ → Float → Float → ℕ → ℕ → Run → Bool
step_test n delta beta j k s = stored_finite n j (l₂Of n j k s) (c₃Of n delta beta j k s) (step_d n delta beta j k s) (step_e n delta beta j k s)

pub step-never : (n : ℕ) (delta beta : Float) (j k : ℕ) (tie : Bool) (s : Run) → (step_at n delta beta j k tie s).progress.refused ≡ None → NotRefused s.progress.refused (step_test n delta beta j k s)
step-never n delta beta j k tie s e = goes_on s.progress.refused (step_test n delta beta j k s) j (rw step-at_is at e)

-- ---- the steps of a run, and its end
pub run_is : (numbers : List ℕ) (n : ℕ) (a : List Float) → run numbers n a ≡ finish n (stepped numbers n a)
unfolding run
run_is numbers n a = refl

pub run-permuted : (numbers : List ℕ) (n : ℕ) (a : List Float) → Permuted n (run numbers n a).p
run-permuted numbers n a = rw (run_is numbers n a, finish-order n (stepped numbers n a)) (steps_permuted numbers n _ _ a)

pub finish-never : (n : ℕ) (s : Run) → (finish n s).progress.refused ≡ None → s.progress.refused ≡ None
finish-never n s = go (is (marked s.progress.refused))
  where
    go : Is (marked s.progress.refused) → (finish n s).progress.refused ≡ None → s.progress.refused ≡ None
    go (holds h) e = rw (finish-stays n s h) at e
    go (fails h) e = unmarked_never s.progress.refused h
