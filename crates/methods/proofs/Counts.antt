-- How many inexact roots a run has counted: at most one for each step taken, so at most n (`gmw81-count`, `se_count`), and the code's
-- sum stays small.
use mathlib.Core.Path.{◌≡◌, refl}
use mathlib.Core.Bool.{Bool, true, false}
use mathlib.Core.List.{List}
use Prim.Native.Nat.{ℕ, suc, ◌+◌, ◌-◌, ◌≤◌, ◌<◌}
use native.Mathlib.Omega.{arith}
use borrow.Author.Tests.{eqb-true, eqb-false}
use lib.Dec.{eqb}
use lib.ListN.{get_or}
use lib.Ieee.{Float, nan}
use Rattle.arithmetic.specs.Loop.{range}
use Rattle.arithmetic.specs.Sqrt.{inexact}
use Rattle.arithmetic.proofs.LoopLaws.{range-ind}
use Rattle.arithmetic.proofs.Cases.{Is, is, holds, fails}
use Rattle.matrix.specs.Matrix.{at}
use Rattle.methods.specs.Marks.{marked, Mark}
use Rattle.methods.specs.Progress.{one_if, stopped}
use Rattle.methods.specs.Statements.{diagonal_max, pivot_matrix}
use Rattle.methods.specs.Gmw81 as gmw
use Rattle.methods.specs.Se.{Run, start, leaves_before, leaves_after, leave, pivot, factorize, step_at, in_phase_one, phase_one, phase_two_step_at, phase_two_step, pair_of, one_of, add_pair, add_one, add_last, rows_of, last_pair, last_one, begin, pairs, phase_two_from, phase_two_after, run}
use Rattle.std.specs.Prelude.{None, Some}
use Rattle.methods.specs.declared.schnabel_eskow.Last.{Last}
use Rattle.methods.specs.declared.schnabel_eskow.Last.TheVariants.{One, Pair}
use Rattle.methods.specs.declared.schnabel_eskow.Tolerances.{Tolerances}
use Rattle.methods.specs.declared.schnabel_eskow.Variant.{Variant}
use Rattle.methods.proofs.GmwLaws.{started_is, step-at_is, finish-stays, finish-goes}
use Rattle.methods.proofs.GmwRuns as gmw-runs
use Rattle.methods.proofs.MarkLaws.{clash}
use Rattle.methods.proofs.SeLaws.{cond_keeps, step_at-is, phase_one_step-is, in_phase_one-is, phase_one-is, phase_two_step-is, last_pair-is, last_one-is, pairs_is, phase_two_from-is, after_never, after-step, run_is, rows-of_pair, rows-of_one}
use Rattle.methods.proofs.SeRuns.{phase_one-below}
use Rattle.methods.proofs.Stopped.{going}

pub one-most : (b : Bool) → one_if b ≤ 1
unfolding one_if
one-most true = omega arith
one-most false = omega arith

one_more : (k : ℕ) (b : Bool) → k + one_if b ≤ k + 1
one_more k b = omega (arith, one-most b)

two-more : (k : ℕ) (a b : Bool) → k + (one_if a + one_if b) ≤ k + 2
two-more k a b = omega (arith, one-most a, one-most b)

-- ---- GMW81: its steps count none, and its end at most n
pub roots_most : (d : List Float) (i : ℕ) → range 0 i (gmw.count_root d) 0 ≤ i
roots_most d i = range-ind (λ j k. k ≤ j) 0 i (gmw.count_root d) 0 (omega arith) (omega arith) (λ j p q k h. omega (arith, one-most (inexact (get_or d j nan))))

pub inexact_roots-most : (n : ℕ) (d : List Float) → gmw.inexact_roots n d ≤ n
unfolding gmw.inexact_roots
inexact_roots-most n d = roots_most d n

pub steps_uncounted : (numbers : List ℕ) (n : ℕ) (a : List Float) → (gmw.stepped numbers n a).progress.inexact ≡ 0
steps_uncounted numbers n a = gmw-runs.steps_keep numbers n _ _ (λ j s. s.progress.inexact ≡ 0) (record { by_step = λ j k tie s h w e. rw step-at_is e; refused = λ j s h e. e }) a (rw started_is refl)

pub gmw81-count : (numbers : List ℕ) (n : ℕ) (a : List Float) → (gmw.run numbers n a).progress.inexact ≤ n
gmw81-count numbers n a = rw gmw-runs.run_is (go (is (marked s.progress.refused)))
  where
    s : gmw.Run
    s = gmw.stepped numbers n a

    go : Is (marked s.progress.refused) → (gmw.finish n s).progress.inexact ≤ n
    go (holds h) = rw (finish-stays n s h) (omega (arith, steps_uncounted numbers n a))
    go (fails h) = rw (finish-goes n s h) (omega (arith, steps_uncounted numbers n a, inexact_roots-most n s.d))

-- ---- a step of SE90 and SE99 counts at most one
abbrev AtMost : ℕ → Run → Type 0
AtMost k s = s.progress.inexact ≤ k

factorize-count : (n j : ℕ) (s : Run) → AtMost (s.progress.inexact + 1) (factorize n j s)
unfolding factorize
factorize-count n j s = one_more s.progress.inexact _

phase_two_step_at-count : (v : Variant) (t : Tolerances) (gamma : Float) (n j k : ℕ) (s : Run) → AtMost (s.progress.inexact + 1) (phase_two_step_at v t gamma n j k s)
unfolding phase_two_step_at
phase_two_step_at-count v t gamma n j k s = one_more s.progress.inexact _

module _ (v : Variant) (t : Tolerances) (numbers : List ℕ) (gamma : Float) (n : ℕ) where
  phase_two_step-count : (j : ℕ) (s : Run) → AtMost (s.progress.inexact + 1) (phase_two_step v t numbers gamma n j s)
  phase_two_step-count j s = rw phase_two_step-is (cond_keeps (AtMost (s.progress.inexact + 1)) (marked s.progress.refused) s _ (omega arith) (phase_two_step_at-count v t gamma n j _ s))

  -- after phase two's steps from k to j - 1
  pub phase_two_count : (k j : ℕ) (s : Run) → k ≤ j → AtMost k s → AtMost j (range k j (phase_two_step v t numbers gamma n) s)
  phase_two_count k j s h b = range-ind (λ i x. AtMost i x) k j (phase_two_step v t numbers gamma n) s h b (λ i p q x c. omega (arith, phase_two_step-count i x))

-- ---- before step j of phase one at most j are counted, and at most k where it was left at k
pub record LeftAt (j : ℕ) (s : Run) : Type 0 where
  pub most : AtMost j s
  pub left : (k : ℕ) → s.progress.phase2 ≡ Some k → AtMost k s

leave-left : (j : ℕ) (s : Run) → s.progress.phase2 ≡ None → AtMost j s → LeftAt (suc j) (leave j s)
leave-left j s m b = record { most = omega arith; left = λ k e. let z : Some j ≡ Some k = rw m at e in let i : j ≡ k = cc in omega arith }

still_in : (j : ℕ) (s : Run) → s.progress.phase2 ≡ None → AtMost j s → LeftAt j s
still_in j s m b = record { most = b; left = λ k e. clash s.progress.phase2 k m e }

factorize-in : (n j : ℕ) (s : Run) → s.progress.phase2 ≡ None → AtMost j s → LeftAt (suc j) (factorize n j s)
factorize-in n j s m b = still_in (suc j) (factorize n j s) (same m) (omega (arith, factorize-count n j s))
  where
    same : s.progress.phase2 ≡ None → (factorize n j s).progress.phase2 ≡ None
    same e = unfold factorize in e

module _ (v : Variant) (t : Tolerances) (numbers : List ℕ) (gamma : Float) (n : ℕ) where
  step_at-left : (j k : ℕ) (tie : Bool) (s : Run) → s.progress.phase2 ≡ None → AtMost j s → LeftAt (suc j) (step_at v t gamma n j k tie s)
  unfolding pivot
  step_at-left j k tie s m b =
      let s₁ = pivot n j k tie s in
      rw step_at-is (cond_keeps (LeftAt (suc j)) (leaves_after v t gamma n j (pivot_matrix n j k s.l)) (leave j s₁) (factorize n j s₁) (leave-left j s₁ m b) (factorize-in n j s₁ m b))

  in_phase_one-left : (j : ℕ) (s : Run) → LeftAt j s → LeftAt (suc j) (in_phase_one v t numbers gamma n j s)
  in_phase_one-left j s b = go (is (stopped s.progress))
    where
      go : Is (stopped s.progress) → LeftAt (suc j) (in_phase_one v t numbers gamma n j s)
      go (holds h) = rw (in_phase_one-is v t numbers gamma n j s, h) (record { most = omega (arith, b.most); left = b.left })
      go (fails h) =
          let m = (going s.progress h).phase2 in
          rw (in_phase_one-is v t numbers gamma n j s, h, phase_one_step-is v t numbers gamma n j s) (cond_keeps (LeftAt (suc j)) (leaves_before v t gamma n j s.l) (leave j s) _ (leave-left j s m b.most) (step_at-left j _ _ s m b.most))

  pub phase_one_left : (j : ℕ) (s : Run) → s.progress.inexact ≡ 0 → LeftAt j (range 0 j (in_phase_one v t numbers gamma n) s)
  phase_one_left j s e = range-ind LeftAt 0 j (in_phase_one v t numbers gamma n) s (omega arith) (record { most = omega arith; left = λ k h. omega arith }) (λ i p q x h. in_phase_one-left i x h)

  pub left-from_start : (a : List Float) → LeftAt n (phase_one v t numbers gamma n (start n a))
  unfolding start
  left-from_start a = rw phase_one-is (phase_one_left n (start n a) refl)

-- ---- the last block counts at most one for each of its rows
last_count : (n : ℕ) (last : Last) (s : Run) → AtMost (s.progress.inexact + rows_of last) (add_last n last s)
unfolding add_one add_pair
last_count n (One ej) s = one_more s.progress.inexact _
last_count n (Pair x ea) s = two-more s.progress.inexact _ _

pub begin-count : (n k : ℕ) (s : Run) → (begin n k s).progress.inexact ≡ s.progress.inexact
unfolding begin
begin-count n k s = refl

-- ---- a whole run
module _ (v : Variant) (t : Tolerances) (numbers : List ℕ) (gamma : Float) (n : ℕ) where
  last_pair-count : (s : Run) → 2 ≤ n → AtMost (n - 2) s → AtMost n (last_pair v t gamma n s)
  last_pair-count s h b =
      let last = pair_of v t gamma n s.l s.progress.delta_prev in
      rw last_pair-is (omega (arith, last_count n last s, rows-of_pair v t gamma n s.l s.progress.delta_prev last refl))

  last_one-count : (s : Run) → 1 ≤ n → AtMost (n - 1) s → AtMost n (last_one v t gamma n s)
  last_one-count s h b =
      let last = one_of v t gamma (at n s.l (n - 1) (n - 1)) in
      rw last_one-is (omega (arith, last_count n last s, rows-of_one v t gamma (at n s.l (n - 1) (n - 1)) last refl))

  pairs-count : (k : ℕ) (s : Run) → k + 2 ≤ n → AtMost k s → AtMost n (pairs v t numbers gamma n k s)
  pairs-count k s h b =
      let s₁ = range k (n - 2) (phase_two_step v t numbers gamma n) (begin n k s) in
      let c = phase_two_count v t numbers gamma n k (n - 2) (begin n k s) (omega arith) (omega (arith, begin-count n k s)) in
      rw pairs_is (cond_keeps (AtMost n) (marked s₁.progress.refused) s₁ _ (omega (arith, c)) (last_pair-count s₁ (omega arith) c))

  from-count : (k : ℕ) (s : Run) → k < n → AtMost k s → AtMost n (phase_two_from v t numbers gamma n k s)
  from-count k s h b = go (is (eqb k (n - 1)))
    where
      go : Is (eqb k (n - 1)) → AtMost n (phase_two_from v t numbers gamma n k s)
      go (holds e) = rw (phase_two_from-is, e) (last_one-count s (omega arith) (omega (arith, eqb-true k (n - 1) e)))
      go (fails e) = rw (phase_two_from-is, e) (pairs-count k s (omega (arith, eqb-false k (n - 1) e)) b)

  after-count : (m : Mark) (s : Run) → ((k : ℕ) → m ≡ Some k → (k < n) × AtMost k s) → AtMost n s → AtMost n (phase_two_after v t numbers gamma n m s)
  after-count None s h b = rw (after_never v t numbers gamma n None s refl) b
  after-count (Some k) s h b = rw (after-step v t numbers gamma n (Some k) k s refl) (from-count k s (h k refl).0 (h k refl).1)

pub se_count : (v : Variant) (t : Tolerances) (numbers : List ℕ) (n : ℕ) (a : List Float) → (run v t numbers n a).progress.inexact ≤ n
se_count v t numbers n a =
    let gamma = diagonal_max n a in
    let s = phase_one v t numbers gamma n (start n a) in
    rw run_is (after-count v t numbers gamma n s.progress.phase2 s (λ k e. (phase_one-below v t numbers gamma n a k e, (left-from_start v t numbers gamma n a).left k e)) (left-from_start v t numbers gamma n a).most)
