-- Every d that GMW81 stored is a number that is at least epsilon: of one step, whether or not it is refused, and of a whole run.
use mathlib.Core.Path.{◌≡◌, refl, sym, ap, ◌∙◌}
use mathlib.Core.Bool.{Bool, true, true≢false}
use mathlib.Core.List.{List}
use Prim.Native.Nat.{ℕ, suc, ◌<◌}
use native.Mathlib.Decide.{ℕ_discrete}
use native.Mathlib.Omega.{arith}
use lib.ListN.{length, get_or, length-set, length-replicate}
use lib.Seq.{get_or-set_same, get_or-set_other}
use lib.Ieee.{Float, nan, is_nan, of_bits}
use Rattle.arithmetic.specs.Double.{plus_zero, one, epsilon, ◌⊕◌, ◌⊘◌, square, abs, max}
use Rattle.arithmetic.specs.AtLeast.{AtLeast}
use Rattle.arithmetic.proofs.Maximum.{at_least_self, max-left, max-right, epsilon-times}
use Rattle.arithmetic.proofs.Cases.{Is, is, holds, fails}
use Rattle.methods.specs.Marks.{mark, marked, Mark}
use Rattle.methods.specs.Statements.{diagonal_max}
use Rattle.methods.specs.Gmw81.{Run, start, d_of, step_at, finish, stepped, off_diagonal_max, delta_of}
use Rattle.std.specs.Prelude.{None, Some}
use Rattle.methods.proofs.GmwLaws.{started_is, step-at_is, finish-stays, finish-goes}
use Rattle.methods.proofs.GmwRuns.{KeptBySteps, steps_keep, step_d, run_is}
use Rattle.methods.proofs.MarkLaws.{mark-keeps}
use Rattle.methods.proofs.SeLaws.{Below, never_below, mark-below}
use Rattle.results.specs.Results.{Taken, DTheorem}

-- ---- delta and d
one-bound : AtLeast one one
unfolding is_nan of_bits
one-bound = at_least_self one refl

pub delta_bound : (diag-max off-diag-max : Float) → AtLeast epsilon (delta_of diag-max off-diag-max)
unfolding delta_of
delta_bound diag-max off-diag-max = epsilon-times (max one (diag-max ⊕ off-diag-max)) (max-left one one (diag-max ⊕ off-diag-max) one-bound)

-- also where c(j, j) or theta / beta is NaN
pub d_bound : (cjj theta beta delta : Float) → AtLeast epsilon delta → AtLeast epsilon (d_of cjj theta beta delta)
unfolding d_of
d_bound cjj theta beta delta h = max-right epsilon (max (abs cjj) (square (theta ⊘ beta))) delta h

-- ---- marks of steps
below_next : (j : ℕ) (m : Mark) → Below j m → Below (suc j) m
below_next j m B k e = omega (arith, B k e)

marked_step : (m : Mark) → marked m ≡ true → (k : ℕ) × (m ≡ Some k)
marked_step None h = absurd (true≢false (sym h))
marked_step (Some k) h = (k, refl)

taken_before : (i j : ℕ) (m : Mark) (b : Bool) → Taken i (mark m b j) → Taken i m
taken_before i j m b t k e = t k (mark-keeps m b j k e)

-- ---- a step
module _ (n : ℕ) (delta beta : Float) (large : AtLeast epsilon delta) where
  -- what it stores in d, whether or not it is refused
  pub step-d : (j k : ℕ) (tie : Bool) (s : Run) → j < length s.d → AtLeast epsilon (get_or (step_at n delta beta j k tie s).d j nan)
  step-d j k tie s h =
      rw (step-at_is, get_or-set_same s.d j (step_d n delta beta j k s) nan h) (d_bound _ _ beta delta large)

  record Bounded (j : ℕ) (s : Run) : Type 0 where
    len : length s.d ≡ n
    refused-before : Below j s.progress.refused
    large_d : (i : ℕ) → i < j → Taken i s.progress.refused → AtLeast epsilon (get_or s.d i nan)

  bounded_at : (j k : ℕ) (tie : Bool) (s : Run) → j < n → Bounded j s → Bounded (suc j) (step_at n delta beta j k tie s)
  bounded_at j k tie s pj B =
      let dj = step_d n delta beta j k s in
      let in-range : j < length s.d = omega (arith, B.len) in
      record {
        len = rw step-at_is (length-set s.d j dj ∙ B.len);
        refused-before = rw step-at_is (mark-below (suc j) j s.progress.refused _ (omega arith) (below_next j s.progress.refused B.refused-before));
        large_d = λ i h t. elim (ℕ_discrete i j) [
          | yes q ↦ rw q (step-d j k tie s in-range)
          | no q ↦ rw (step-at_is, get_or-set_other s.d j i dj nan q) (B.large_d i (omega arith) (taken_before i j s.progress.refused _ (rw step-at_is at t)))
        ];
      }

  -- no step after the refused one is taken
  bounded_stays : (j : ℕ) (s : Run) → marked s.progress.refused ≡ true → Bounded j s → Bounded (suc j) s
  bounded_stays j s h B =
      let m = s.progress.refused in
      let r = marked_step m h in
      record {
        len = B.len;
        refused-before = below_next j m B.refused-before;
        large_d = λ i p t. B.large_d i (omega (arith, t r.0 r.1, B.refused-before r.0 r.1)) t;
      }

  bounded : KeptBySteps n delta beta Bounded
  bounded = record { by_step = λ j k tie s h hk B. bounded_at j k tie s h B; refused = bounded_stays }

  start-bounded : (a : List Float) → Bounded 0 (start n a)
  start-bounded a = rw started_is (record { len = length-replicate n plus_zero; refused-before = never_below 0; large_d = λ i h. absurd (omega arith) })

-- ---- the end changes no d
finish-d : (n : ℕ) (s : Run) → (finish n s).d ≡ s.d
finish-d n s = go (is (marked s.progress.refused))
  where
    go : Is (marked s.progress.refused) → (finish n s).d ≡ s.d
    go (holds h) = ap (λ (t : Run). t.d) (finish-stays n s h)
    go (fails h) = ap (λ (t : Run). t.d) (finish-goes n s h)

-- .. and the steps that were taken are those of the whole run
finish-taken : (n : ℕ) (s : Run) (j : ℕ) → Taken j (finish n s).progress.refused → Taken j s.progress.refused
finish-taken n s j = go (is (marked s.progress.refused))
  where
    go : Is (marked s.progress.refused) → Taken j (finish n s).progress.refused → Taken j s.progress.refused
    go (holds h) = rw (finish-stays n s h) (λ t. t)
    go (fails h) = rw (finish-goes n s h) (λ t. taken_before j n s.progress.refused _ t)

pub d_results : DTheorem
d_results numbers n a z A j pj t =
    let large = delta_bound (diagonal_max n a) (off_diagonal_max n a) in
    let B = steps_keep numbers n _ _ (Bounded n _ _ large) (bounded n _ _ large) a (start-bounded n _ _ large a) in
    rw (run_is numbers n a, finish-d n (stepped numbers n a)) (B.large_d j pj (finish-taken n (stepped numbers n a) j (rw run_is at t)))
