-- Two runs of SE90, or of SE99: the steps of phase one keep them in step, and how they end. Phase two changes neither the tied nor the
-- phase-two step.
use mathlib.Core.Path.{◌≡◌, refl, sym, ap, ◌∙◌, subst}
use mathlib.Core.List.{List, []}
use mathlib.Core.Bool.{Bool, true, false}
use Prim.Native.Nat.{ℕ, suc, ◌+◌, ◌<◌}
use native.Mathlib.Decide.{dec_lt}
use native.Mathlib.Omega.{arith}
use lib.ListN.{length, get_or, length-replicate}
use lib.Dec.{T, ltb, eqb}
use lib.Ieee.{Float, binary64, fits}
use lib.Ieee.Fits.{cond-fits, sub-fits, div-fits}
use Rattle.arithmetic.specs.Double.{◌⊗◌, ◌⊘◌, plus_zero}
use Rattle.arithmetic.proofs.OrderLaws.{finite_number}
use Rattle.arithmetic.specs.Sqrt.{sqrt, inexact}
use Rattle.arithmetic.proofs.Nearest.{sqrt-fits}
use Rattle.matrix.specs.Matrix.{at}
use Rattle.matrix.proofs.EntryLaws.{Entries}
use Rattle.matrix.proofs.SwapLaws.{transpose, transpose_lt}
use Rattle.arithmetic.proofs.Cases.{Is, is, holds, fails}
use Rattle.matrix.proofs.Bijection.{Bijection, Fixes, bijection_from}
use Rattle.methods.specs.Progress.{searched, left, stored, counted, one_if}
use Rattle.methods.specs.Result.{identity}
use Rattle.methods.specs.Statements.{diagonal_max, diagonal, pick, pivot_matrix, pivot_list, eliminate, block_finite, lower_triangle, reorder}
use Rattle.methods.specs.Se.{Run, start, leaves_before, leaves_after, leave, pivot, factorize, step_at, phase_one_step, in_phase_one, phase_one, phase_two_step_at, pair_of, one_of, add_pair, add_one, last_pair, last_one, begin, phase_two_after, phase_two, run}
use Rattle.std.specs.Prelude.{None}
use Rattle.methods.specs.declared.progress.Progress.{Progress}
use Rattle.methods.specs.declared.schnabel_eskow.Tolerances.{Tolerances}
use Rattle.methods.specs.declared.schnabel_eskow.Variant.{Variant}
use Rattle.methods.proofs.Moved.{Moved, moved_same, pivot-at, pivot-symmetric, block_each, block_moved}
use Rattle.methods.proofs.Eliminated.{eliminated, low_row, low_column, eliminate-at, eliminate-symmetric, eliminate-moved}
use Rattle.methods.proofs.PhaseOne.{leaves_before-along, leaves_after-along}
use Rattle.methods.proofs.Refused.{goes_on}
use Rattle.methods.proofs.Stopped.{Going}
use Rattle.methods.proofs.SeRuns.{KeptInPhaseTwo, phase_two-keeps}
use Rattle.methods.proofs.Loaded.{Good, Loaded, gamma_same}
use Rattle.methods.proofs.LoadOrders.{order}
use Rattle.load_order.proofs.Positions.{Pivoted, corner, earlier, loaded_positions, same-pivots, same-amounts}
use Rattle.load_order.proofs.Picks.{Searches, without_numbers, diagonal-picks_first}
use Rattle.load_order.proofs.Lockstep.{Steps, InStep, Together, Runs, Laws, runs}
use Rattle.load_order.proofs.OwnSteps.{OrderLaws, Own, own}
use Rattle.load_order.proofs.Ends.{End, Ended, BothAlike, ProgressKept, runs_end, together_end}

abbrev AllGood : ℕ → List Float → Type 0
AllGood n m = (x y : ℕ) → x < n → y < n → Good (at n m x y)

-- ---- finite doubles stay so where the stored block is finite
eliminated_fits : (n j : ℕ) (m : List Float) (r : Float) → AllGood n m → T (fits binary64 r) → (x y : ℕ) → x < n → y < n → T (fits binary64 (eliminated (at n m) j r x y))
unfolding eliminated
eliminated_fits n j m r g fr x y px py =
    let d = (g x y px py).double in
    let q = div-fits binary64 (at n m x y) r in
    cond-fits binary64 (ltb x j) _ _ d (cond-fits binary64 (ltb y j) _ _ d
    (cond-fits binary64 (eqb x j) _ _ (cond-fits binary64 (eqb y j) _ _ fr q) (cond-fits binary64 (eqb y j) _ _ q (sub-fits binary64 (at n m x y) ((at n m x j ⊘ r) ⊗ (at n m y j ⊘ r))))))

pivot-good : (n j k : ℕ) (m : List Float) → Entries n m → j < n → j + k < n → AllGood n m → AllGood n (pivot_matrix n j k m)
pivot-good n j k m h pj pk g x y px py = rw (pivot-at n j k m h pj pk x y px py) (g (transpose j (j + k) x) (transpose j (j + k) y) (transpose_lt n j (j + k) x pj pk px) (transpose_lt n j (j + k) y pj pk py))

eliminate-good : (n j : ℕ) (m : List Float) → j < n → Entries n m → ((x y : ℕ) → x < n → y < n → at n m x y ≡ at n m y x) → AllGood n m
    → block_finite n j (eliminate n j m) ≡ true → AllGood n (eliminate n j m)
eliminate-good n j m pj h s g e x y px py = record {
  number = elim (dec_lt x j) [
    | yes p ↦ rw (eliminate-at n j m pj h s x y px py, low_x p) (g x y px py).number
    | no p ↦ elim (dec_lt y j) [
      | yes q ↦ rw (eliminate-at n j m pj h s x y px py, low_y q) (g x y px py).number
      | no q ↦ block_each n j (eliminate n j m) (omega arith) e x y (omega arith) px (omega arith) py
    ]
  ];
  double = rw (eliminate-at n j m pj h s x y px py) (eliminated_fits n j m (sqrt (at n m j j)) g (sqrt-fits (at n m j j) (g j j pj pj).double) x y px py);
}
  where
    low_x : x < j → eliminated (at n m) j (sqrt (at n m j j)) x y ≡ at n m x y
    low_x p = low_row (at n m) j (sqrt (at n m j j)) x y p

    low_y : y < j → eliminated (at n m) j (sqrt (at n m j j)) x y ≡ at n m x y
    low_y q = low_column (at n m) j (sqrt (at n m j j)) x y q

-- ---- the method
module _ (v : Variant) (t : Tolerances) (gamma : Float) (n : ℕ) where
  abbrev steps : Steps Run
  steps = record {
    progress = λ r. r.progress;
    order = λ r. r.p;
    leaves = λ j r. leaves_before v t gamma n j r.l;
    leave = leave;
    search_from = λ numbers j r. pick numbers r.p false (diagonal n r.l) j;
    step_at = step_at v t gamma n;
  }

-- what the steps keep: of l and of e
record Matched (n : ℕ) (σ : ℕ → ℕ) (l_a l_b eA eB : List Float) : Type 0 where
  moved : Moved n σ l_a l_b
  symmetric : (x y : ℕ) → x < n → y < n → at n l_a x y ≡ at n l_a y x
  good : AllGood n l_a
  same-e : eA ≡ eB
  length_e : length eA ≡ n

abbrev Values : ℕ → (ℕ → ℕ) → ℕ → Run → Run → Type 0
Values n σ j A B = Matched n σ A.l B.l A.e B.e

-- ---- a step, the pivots corresponding
module _ (v : Variant) (t : Tolerances) (gamma : Float) (n : ℕ) (s : ℕ → ℕ) (j a b : ℕ) (tie : Bool) (A B : Run) (L : InStep (steps v t gamma n) n s (Values n) j A B)
    (W : Pivoted n s j A.p B.p L.positions a b) (same : A.progress ≡ B.progress) (G : Going A.progress) where
  abbrev σ₁ : ℕ → ℕ
  σ₁ = W.next.σ

  abbrev τ₁ : ℕ → ℕ
  τ₁ = W.next.τ

  abbrev l_a : List Float
  l_a = pivot_matrix n j a A.l

  abbrev l_b : List Float
  l_b = pivot_matrix n j b B.l

  P₁ : Bijection 0 n σ₁ τ₁
  P₁ = W.next.bijection

  f₁ : Fixes n (j + 1) σ₁
  f₁ = W.fixes

  M₁ : Moved n σ₁ l_a l_b
  M₁ = W.moved A.l B.l L.values.moved

  s₁ : (x y : ℕ) → x < n → y < n → at n l_a x y ≡ at n l_a y x
  s₁ = pivot-symmetric n j a A.l L.values.moved.entries_a W.here W.first L.values.symmetric

  g₁ : AllGood n l_a
  g₁ = pivot-good n j a A.l L.values.moved.entries_a W.here W.first L.values.good

  M₂ : Moved n σ₁ (eliminate n j l_a) (eliminate n j l_b)
  M₂ = eliminate-moved n j σ₁ τ₁ l_a l_b W.here P₁ f₁ M₁ s₁

  -- of the step's root
  operand : at n l_a j j ≡ at n l_b j j
  operand = corner W M₁

  leaves : leaves_after v t gamma n j l_a ≡ leaves_after v t gamma n j l_b
  leaves = leaves_after-along v t gamma n j σ₁ τ₁ l_a l_b W.here P₁ f₁ M₁ s₁

  blocks : block_finite n j (eliminate n j l_a) ≡ block_finite n j (eliminate n j l_b)
  blocks = block_moved n j σ₁ τ₁ (eliminate n j l_a) (eliminate n j l_b) (omega (arith, W.here)) (bijection_from n j σ₁ τ₁ P₁ (λ x p q. f₁ x (omega arith) q)) M₂

  step-alike : Together (steps v t gamma n) n s (Values n) (suc j) (step_at v t gamma n j a tie A) (step_at v t gamma n j b tie B)
  unfolding step_at pivot factorize
  step-alike = go (is (leaves_after v t gamma n j l_a))
    where
      go : Is (leaves_after v t gamma n j l_a) → Together (steps v t gamma n) n s (Values n) (suc j) (step_at v t gamma n j a tie A) (step_at v t gamma n j b tie B)
      go (holds p) = rw (p, sym leaves ∙ p) (record {
        same = ap (λ (r : Progress). left j (searched tie j r)) same;
        in_step = λ e. rw G.phase2 (record {
          positions = earlier W.next;
          values = record { moved = M₁; symmetric = s₁; good = g₁; same-e = L.values.same-e; length_e = L.values.length_e };
        });
      })
      go (fails p) = rw (p, sym leaves ∙ p) (record {
        same = λ i. stored (blocks i) j (counted (one_if (inexact (operand i))) (searched tie j (same i)));
        in_step = λ e. rw G.phase2 (record {
          positions = W.next;
          values = record {
            moved = M₂;
            symmetric = eliminate-symmetric n j l_a W.here M₁.entries_a s₁;
            good = eliminate-good n j l_a W.here M₁.entries_a s₁ g₁ (goes_on A.progress.refused (block_finite n j (eliminate n j l_a)) j e).test;
            same-e = L.values.same-e;
            length_e = L.values.length_e;
          };
        });
      })

-- ---- phase one
module _ (v : Variant) (t : Tolerances) (gamma : Float) (n : ℕ) (s : ℕ → ℕ) where
  step-tied : (j k : ℕ) (tie : Bool) (r : Run) → (step_at v t gamma n j k tie r).progress.tied ≡ (searched tie j r.progress).tied
  unfolding step_at pivot factorize
  step-tied j k tie r = go (is (leaves_after v t gamma n j (pivot_matrix n j k r.l)))
    where
      go : Is (leaves_after v t gamma n j (pivot_matrix n j k r.l)) → (step_at v t gamma n j k tie r).progress.tied ≡ (searched tie j r.progress).tied
      go (holds p) = rw p
      go (fails p) = rw p

  laws : (May : Type 0) (first second : List ℕ) → Searches May false n s first second → Laws (steps v t gamma n) n s (Values n) May first second
  laws May first second S = record {
    leaves_alike = λ j A B pj L. leaves_before-along v t gamma n j L.positions.σ L.positions.τ A.l B.l pj L.positions.bijection L.positions.fixes L.values.moved
        (λ x p. (L.values.good x x p p).number) (λ x p. (L.values.good x x p p).double);
    leave-alike = λ j A B h L same G. record { same = ap (left j) same; in_step = λ e. rw G.phase2 (record { positions = L.positions; values = L.values }) };
    leave-tied = λ j r. refl;
    picks = λ j A B pj L. S.picks j A.p B.p L.positions A.l B.l pj L.values.moved (λ i p q. finite_number (at n A.l i i) (L.values.good i i q q).number);
    step-alike = step-alike v t gamma n s;
    step-tied = step-tied;
  }

  starts : (s' : ℕ → ℕ) (A B : List Float) → Loaded n s s' A B → Together (steps v t gamma n) n s (Values n) 0 (start n A) (start n B)
  unfolding start
  starts s' A B D = record {
    same = refl;
    in_step = λ e. record {
      positions = loaded_positions n s s' D.bijection;
      values = record { moved = D.moved; symmetric = D.symmetric; good = D.good; same-e = refl; length_e = length-replicate n plus_zero };
    };
  }

  phase_one_runs : (May : Type 0) (first second : List ℕ) → Searches May false n s first second → (s' : ℕ → ℕ) (A B : List Float) → Loaded n s s' A B
      → Runs (steps v t gamma n) n s (Values n) May n (phase_one v t first gamma n (start n A)) (phase_one v t second gamma n (start n B))
  unfolding phase_one in_phase_one phase_one_step
  phase_one_runs May first second S s' A B D = runs (steps v t gamma n) n s (Values n) May first second (laws May first second S) (start n A) (start n B) (starts s' A B D)

  step-order : (j k : ℕ) (tie : Bool) (r : Run) → (step_at v t gamma n j k tie r).p ≡ pivot_list 0 j k r.p
  unfolding step_at pivot factorize
  step-order j k tie r = go (is (leaves_after v t gamma n j (pivot_matrix n j k r.l)))
    where
      go : Is (leaves_after v t gamma n j (pivot_matrix n j k r.l)) → (step_at v t gamma n j k tie r).p ≡ pivot_list 0 j k r.p
      go (holds p) = rw p
      go (fails p) = rw p

  order-laws : OrderLaws (steps v t gamma n) n s (Values n)
  order-laws = record {
    leave-order = λ j r. refl;
    step-order = step-order;
    picks_first = λ j A B pj L. diagonal-picks_first false n j L.positions A.l B.l pj L.values.moved (λ i p q. finite_number (at n A.l i i) (L.values.good i i q q).number);
  }

  start-order : (a : List Float) → (start n a).p ≡ identity n
  unfolding start
  start-order a = refl

  phase_one_own : (s' : ℕ → ℕ) (A B : List Float) → Loaded n s s' A B → ((i : ℕ) → i < n → s i ≡ get_or (phase_one v t [] gamma n (start n A)).p i 0)
      → Own (steps v t gamma n) n s (Values n) n (phase_one v t [] gamma n (start n A)) (phase_one v t [] gamma n (start n B))
  unfolding phase_one in_phase_one phase_one_step
  phase_one_own s' A B D h = own (steps v t gamma n) n s (Values n) (laws Unit [] [] (without_numbers false n s)) order-laws (start n A) (start n B) (record { together = starts s' A B D; unmoved = start-order B }) h

-- ---- phase two keeps the marks
record SameMarks (r q : Run) : Type 0 where
  tied : q.progress.tied ≡ r.progress.tied
  phase2 : q.progress.phase2 ≡ r.progress.phase2

abbrev pub end_of : ℕ → Run → End
end_of n r = record { progress = r.progress; l = lower_triangle n r.l; e = reorder n r.p r.e; p = r.p }

module _ (v : Variant) (t : Tolerances) (gamma : Float) (n : ℕ) where
  kept-two : (r : Run) → KeptInPhaseTwo v t gamma n (SameMarks r) (SameMarks r)
  unfolding begin phase_two_step_at last_pair last_one pair_of one_of add_pair add_one
  kept-two r = record {
    after_one = λ s K. K;
    by_begin = λ k s h K. record { tied = K.tied; phase2 = K.phase2 };
    by_step = λ j k s h hk K. record { tied = K.tied; phase2 = K.phase2 };
    by_pair = λ s h K. record { tied = K.tied; phase2 = K.phase2 };
    by_one = λ s h m K. record { tied = K.tied; phase2 = K.phase2 };
  }

  -- a run that stayed in phase one
  stayed : (numbers : List ℕ) (r : Run) → r.progress.phase2 ≡ None → phase_two v t numbers gamma n r ≡ r
  unfolding phase_two_after
  stayed numbers r e = rw e

  finished : (numbers : List ℕ) (a : List Float) → let r = phase_one v t numbers gamma n (start n a) in ProgressKept r.progress (end_of n (phase_two v t numbers gamma n r))
  finished numbers a =
      let r = phase_one v t numbers gamma n (start n a) in
      let K = phase_two-keeps v t numbers gamma n a (SameMarks r) (SameMarks r) (kept-two r) (record { tied = refl; phase2 = refl }) in
      record { tied = K.tied; phase2 = K.phase2; refused = λ k e p. ap (λ (q : Run). q.progress) (stayed numbers r p) }

  -- ---- the end
  complete : (first second : List ℕ) (s : List ℕ) (A B : Run) → InStep (steps v t gamma n) n (order s) (Values n) n A B → A.progress ≡ B.progress → Going A.progress
      → BothAlike n s (end_of n (phase_two v t first gamma n A)) (end_of n (phase_two v t second gamma n B))
  complete first second s A B L same G =
      subst (λ (r : Run). BothAlike n s (end_of n r) (end_of n (phase_two v t second gamma n B))) (sym (stayed first A G.phase2))
      (subst (λ (r : Run). BothAlike n s (end_of n A) (end_of n r)) (sym (stayed second B (sym (ap (λ (r : Progress). r.phase2) same) ∙ G.phase2)))
      (record {
        same = same;
        completed = λ r. record {
          factors = ap (lower_triangle n) (sym (moved_same n L.positions.σ A.l B.l L.positions.fixes L.values.moved));
          amounts = same-amounts L.positions L.values.same-e L.values.length_e;
          pivots = same-pivots L.positions;
        };
      }))

  -- a run with no second phase has the order of phase one
  stayed_order : (numbers : List ℕ) (a : List Float) → let r = phase_one v t numbers gamma n (start n a) in (phase_two v t numbers gamma n r).progress.phase2 ≡ None → (phase_two v t numbers gamma n r).p ≡ r.p
  stayed_order numbers a e = let r = phase_one v t numbers gamma n (start n a) in ap (λ (q : Run). q.p) (stayed numbers r (sym (finished numbers a).phase2 ∙ e))

module _ (v : Variant) (t : Tolerances) (n : ℕ) (s : List ℕ) (s' : ℕ → ℕ) (A B : List Float) (D : Loaded n (order s) s' A B) where
  -- the second run has the first one's gamma
  abbrev gamma : Float
  gamma = diagonal_max n A

  second_run : (numbers : List ℕ) → phase_two v t numbers gamma n (phase_one v t numbers gamma n (start n B)) ≡ run v t numbers n B
  unfolding run
  second_run numbers = ap (λ (x : Float). phase_two v t numbers x n (phase_one v t numbers x n (start n B))) (gamma_same D)

  pub se_ended : (May : Type 0) (first second : List ℕ) → Searches May false n (order s) first second → Ended May n s (end_of n (run v t first n A)) (end_of n (run v t second n B))
  unfolding run
  se_ended May first second S = subst (λ (r : Run). Ended May n s (end_of n (run v t first n A)) (end_of n r)) (second_run second)
      (runs_end (steps v t gamma n) n s (Values n) May _ _ _ _ (finished v t gamma n first A) (finished v t gamma n second B) (complete v t gamma n first second s _ _) (phase_one_runs v t gamma n (order s) May first second S s' A B D))

  -- s is the first run's order, and there are no numbers
  pub se_own : (run v t [] n A).p ≡ s → (run v t [] n A).progress.phase2 ≡ None → (run v t [] n A).progress.refused ≡ None → BothAlike n s (end_of n (run v t [] n A)) (end_of n (run v t [] n B))
  unfolding run
  se_own e p q = subst (λ (r : Run). BothAlike n s (end_of n (run v t [] n A)) (end_of n r)) (second_run [])
      (together_end (steps v t gamma n) n s (Values n) Unit _ _ _ _ (finished v t gamma n [] A) (finished v t gamma n [] B) (complete v t gamma n [] [] s _ _)
      (phase_one_own v t gamma n (order s) s' A B D (λ i h. ap (λ (x : List ℕ). get_or x i 0) (sym e ∙ stayed_order v t gamma n [] A p))).together p q)
