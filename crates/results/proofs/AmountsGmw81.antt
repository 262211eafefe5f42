-- The amounts of GMW81: d[j] is at least c(j, j), so the difference is not negative.
use mathlib.Core.Path.{◌≡◌, sym, ap, subst}
use mathlib.Core.Bool.{Bool, true, false, ◌&&◌}
use mathlib.Core.List.{List}
use Prim.Native.Nat.{ℕ, ◌+◌, ◌<◌}
use native.Mathlib.Omega.{arith}
use lib.Ieee.{Float, lt, is_nan}
use lib.Ieee.Scale.{finite}
use Rattle.arithmetic.specs.All.{all}
use Rattle.arithmetic.specs.Double.{plus_zero, ◌⊘◌, square, abs, max}
use Rattle.arithmetic.proofs.OrderLaws.{and_2}
use Rattle.arithmetic.proofs.Maximum.{abs-at_least, max-left, nan_is, none_below_nan}
use Rattle.arithmetic.proofs.Difference.{sub-not_negative}
use Rattle.matrix.specs.Matrix.{at}
use Rattle.matrix.proofs.EntryLaws.{Entries}
use Rattle.arithmetic.proofs.Cases.{Is, is, holds, fails}
use Rattle.methods.specs.Marks.{marked}
use Rattle.methods.specs.Statements.{pivot_matrix}
use Rattle.methods.specs.Gmw81.{Run, start, theta_of, d_of, c₂Of, stored_finite, step_at, finish, stepped, run}
use Rattle.std.specs.Prelude.{None}
use Rattle.methods.proofs.Moved.{pivot-entries}
use Rattle.methods.proofs.GmwLaws.{started_is, step-at_is, finish-goes}
use Rattle.methods.proofs.GmwRuns.{KeptBySteps, steps_keep, l₂Of, c₃Of, step_d, step_e, step-never, run_is, finish-never}
use Rattle.methods.proofs.GmwSteps.{column-entries, diagonal-other, diagonal-entries, start-entries}
use Rattle.results.specs.Results.{Amounts}
use Rattle.results.proofs.AmountsLists.{zeros-amounts, set-amounts, reorder-amounts}

-- ---- d[j] is not less than c(j, j), also where c(j, j) is NaN
pub d_not_less : (cjj theta beta delta : Float) → lt (d_of cjj theta beta delta) cjj ≡ false
d_not_less cjj theta beta delta = go (is (is_nan cjj))
  where
    go : Is (is_nan cjj) → lt (d_of cjj theta beta delta) cjj ≡ false
    go (holds e) = subst (λ (x : Float). lt (d_of cjj theta beta delta) x ≡ false) (sym (nan_is cjj e)) (none_below_nan _)
    go (fails e) = unfold d_of in (max-left cjj (max (abs cjj) (square (theta ⊘ beta))) delta (max-left cjj (abs cjj) (square (theta ⊘ beta)) (abs-at_least cjj e))).not_less

-- ---- a step
stored-amount : (n j : ℕ) (l c : List Float) (dj ej : Float) → stored_finite n j l c dj ej ≡ true → finite ej ≡ true
unfolding stored_finite
stored-amount n j l c dj ej h =
    and_2 (all 0 j (λ s. finite (at n l j s)) && all j n (λ i. finite (at n c i j)) && all (j + 1) n (λ i. finite (at n c i i)) && finite dj) (finite ej) h

module _ (n : ℕ) (delta beta : Float) where
  record Kept (s : Run) : Type 0 where
    entries : Entries n s.c
    amounts : s.progress.refused ≡ None → Amounts n s.e

  kept_at : (j k : ℕ) (tie : Bool) (s : Run) → j < n → j + k < n → Kept s → Kept (step_at n delta beta j k tie s)
  kept_at j k tie s pj pk K =
      let c₂ = c₂Of n j k s.l s.c s.d in
      let c₃ = c₃Of n delta beta j k s in
      let dj = step_d n delta beta j k s in
      let ej = step_e n delta beta j k s in
      let entries₂ : Entries n c₂ = column-entries n j (l₂Of n j k s) (pivot_matrix n j k s.c) pj (pivot-entries n j k s.c K.entries pj pk) in
      let own : at n c₃ j j ≡ at n c₂ j j = diagonal-other n j dj c₂ pj entries₂ j j pj pj (λ u w. omega arith) in
      let not_negative : lt ej plus_zero ≡ false = sub-not_negative dj (at n c₃ j j) (rw own (d_not_less (at n c₂ j j) (theta_of n j c₂) beta delta)) in
      record {
        entries = rw step-at_is (diagonal-entries n j dj c₂ pj entries₂);
        amounts = λ r.
            let R = step-never n delta beta j k tie s r in
            rw step-at_is (set-amounts n s.e j ej (stored-amount n j (l₂Of n j k s) c₃ dj ej R.test) not_negative (K.amounts R.before));
      }

  kept : KeptBySteps n delta beta (λ j s. Kept s)
  kept = record { by_step = kept_at; refused = λ j s h K. K }

  start-kept : (a : List Float) → Kept (start n a)
  start-kept a = record { entries = start-entries n a; amounts = λ r. rw started_is (zeros-amounts n) }

-- ---- a whole run
finish-amounts : (n : ℕ) (s : Run) → (s.progress.refused ≡ None → Amounts n s.e) → (finish n s).progress.refused ≡ None → Amounts n (finish n s).e
finish-amounts n s A r =
    let r' = finish-never n s r in
    rw (finish-goes n s (ap marked r')) (reorder-amounts n s.p s.e (A r'))

pub amounts-gmw81 : (numbers : List ℕ) (n : ℕ) (a : List Float) → (run numbers n a).progress.refused ≡ None → Amounts n (run numbers n a).e
amounts-gmw81 numbers n a = subst (λ (x : Run). x.progress.refused ≡ None → Amounts n x.e) (sym (run_is numbers n a))
    (finish-amounts n (stepped numbers n a) (steps_keep numbers n _ _ (λ j s. Kept n _ _ s) (kept n _ _) a (start-kept n _ _ a)).amounts)
