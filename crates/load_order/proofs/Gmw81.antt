-- Two runs of GMW81: its steps keep them in step, and how they end.
use mathlib.Core.Path.{◌≡◌, refl, sym, ap, ap₂, ◌∙◌, subst}
use mathlib.Core.List.{List, []}
use mathlib.Core.Bool.{Bool, true, false, ◌&&◌, false≢true}
use Prim.Native.Nat.{ℕ, suc, ◌+◌, ◌≤◌, ◌<◌}
use native.Mathlib.Omega.{arith}
use lib.ListN.{length, get_or, set, length-set, length-replicate}
use lib.Ieee.{Float, binary64}
use lib.Ieee.Fits.{sub-fits}
use lib.Ieee.Scale.{finite}
use Rattle.arithmetic.specs.All.{all}
use Rattle.arithmetic.proofs.AllLaws.{all-each}
use Rattle.arithmetic.specs.Double.{plus_zero, ◌⊖◌}
use Rattle.arithmetic.specs.Loop.{range}
use Rattle.arithmetic.proofs.OrderLaws.{and_1, and_2, finite_number}
use Rattle.arithmetic.proofs.Folds.{Double}
use Rattle.matrix.specs.Matrix.{at}
use Rattle.arithmetic.proofs.Cases.{Is, is, holds, fails, same_tests}
use Rattle.matrix.proofs.Bijection.{Bijection, Fixes, bijection_from}
use Rattle.matrix.proofs.EntryLaws.{Entries}
use Rattle.methods.specs.Marks.{marked}
use Rattle.methods.specs.Progress.{searched, stored, counted}
use Rattle.methods.specs.Result.{identity}
use Rattle.methods.specs.Statements.{diagonal_max, diagonal, pick, pivot_matrix}
use Rattle.methods.specs.Gmw81.{Run, start, divide_row, dot, d_of, update_diagonal, stored_finite, c₂Of, step_at, step, dout_of, inexact_roots, unit_lower, product, scaled_finite, finish, run, stepped, off_diagonal_max, delta_of, beta_of}
use Rattle.std.specs.Prelude.{None}
use Rattle.methods.specs.declared.progress.Progress.{Progress}
use Rattle.methods.proofs.Tests.{all_same, all-along}
use Rattle.methods.proofs.Magnitudes.{off_diagonal_max-along}
use Rattle.methods.proofs.Moved.{Moved, moved_same}
use Rattle.methods.proofs.Refused.{goes_on}
use Rattle.methods.proofs.Stopped.{Going}
use Rattle.methods.proofs.Loaded.{Loaded, all-double, gamma_same}
use Rattle.methods.proofs.LoadOrders.{order}
use Rattle.methods.proofs.GmwLaws.{started_is, step-at_is, finish-stays, finish-goes, finish-order}
use Rattle.methods.proofs.GmwRuns.{steps_keep, run_is, l₂Of, c₃Of, step_d, step_e, step_test}
use Rattle.methods.proofs.GmwSteps.{column-at, diagonal-other, row_moved, row_fixed, column-moved, diagonal-moved, theta_moved, start-at, start-moved}
use Rattle.load_order.proofs.Positions.{Pivoted, corner, loaded_positions, same-pivots, same-amounts}
use Rattle.load_order.proofs.Picks.{Searches, without_numbers, diagonal-picks_first}
use Rattle.load_order.proofs.Lockstep.{Steps, InStep, Together, Runs, Laws, runs}
use Rattle.load_order.proofs.OwnSteps.{OrderLaws, Own, own}
use Rattle.load_order.proofs.Ends.{End, Ended, BothAlike, ProgressKept, runs_end, together_end}

-- the method: no test stands before its search
abbrev steps : ℕ → Float → Float → Steps Run
steps n delta beta = record {
  progress = λ r. r.progress;
  order = λ r. r.p;
  leaves = λ j r. false;
  leave = λ j r. r;
  search_from = λ numbers j r. pick numbers r.p true (diagonal n r.c) j;
  step_at = step_at n delta beta;
}

-- what the steps keep
record Values (n : ℕ) (σ : ℕ → ℕ) (j : ℕ) (A B : Run) : Type 0 where
  moved_l : Moved n σ A.l B.l
  moved_c : Moved n σ A.c B.c
  finite_c : (i : ℕ) → j ≤ i → i < n → finite (at n A.c i i) ≡ true
  same-d : A.d ≡ B.d
  same-e : A.e ≡ B.e
  length_e : length A.e ≡ n

-- ---- a step, the pivots corresponding
module _ (n : ℕ) (delta beta : Float) (s : ℕ → ℕ) (j a b : ℕ) (tie : Bool) (A B : Run) (L : InStep (steps n delta beta) n s (Values n) j A B) (W : Pivoted n s j A.p B.p L.positions a b)
    (same : A.progress ≡ B.progress) (G : Going A.progress) where
  abbrev σ₁ : ℕ → ℕ
  σ₁ = W.next.σ

  abbrev τ₁ : ℕ → ℕ
  τ₁ = W.next.τ

  P₁ : Bijection 0 n σ₁ τ₁
  P₁ = W.next.bijection

  f₁ : Fixes n (j + 1) σ₁
  f₁ = W.fixes

  C₁ : Moved n σ₁ (pivot_matrix n j a A.c) (pivot_matrix n j b B.c)
  C₁ = W.moved A.c B.c L.values.moved_c

  -- c after its column j is worked out
  abbrev c₂ : ℕ → Run → List Float
  c₂ k r = c₂Of n j k r.l r.c r.d

  abbrev c₃ : ℕ → Run → List Float
  c₃ k r = c₃Of n delta beta j k r

  L₂ : Moved n σ₁ (l₂Of n j a A) (l₂Of n j b B)
  L₂ = subst (λ (d : List Float). Moved n σ₁ (l₂Of n j a A) (divide_row n j (pivot_matrix n j b B.c) d (pivot_matrix n j b B.l))) L.values.same-d
      (row_moved n j σ₁ τ₁ W.here P₁ f₁ (pivot_matrix n j a A.c) (pivot_matrix n j b B.c) A.d (pivot_matrix n j a A.l) (pivot_matrix n j b B.l)
      C₁ (W.moved A.l B.l L.values.moved_l))

  C₂ : Moved n σ₁ (c₂ a A) (c₂ b B)
  C₂ = column-moved n j σ₁ τ₁ W.here P₁ f₁ (l₂Of n j a A) (l₂Of n j b B) (pivot_matrix n j a A.c) (pivot_matrix n j b B.c) L₂ C₁

  -- column j is not changed again in this step
  column : (k : ℕ) (r : Run) → Entries n (c₂ k r) → (i : ℕ) → j ≤ i → i < n → at n (c₃ k r) i j ≡ at n (c₂ k r) i j
  column k r h i p q = diagonal-other n j (step_d n delta beta j k r) (c₂ k r) W.here h i j q W.here (λ u w. omega arith)

  -- ---- what is tested
  abbrev ok_row : ℕ → Run → Bool
  ok_row k r = all 0 j (λ i. finite (at n (l₂Of n j k r) j i))

  abbrev ok_column : ℕ → Run → Bool
  ok_column k r = all j n (λ i. finite (at n (c₃ k r) i j))

  abbrev ok_diagonal : ℕ → Run → Bool
  ok_diagonal k r = all (j + 1) n (λ i. finite (at n (c₃ k r) i i))

  tested : (k : ℕ) (r : Run) → step_test n delta beta j k r ≡ true → (ok_column k r ≡ true) × (ok_diagonal k r ≡ true)
  unfolding stored_finite
  tested k r h =
      let d = finite (step_d n delta beta j k r) in
      let three = ok_row k r && ok_column k r && ok_diagonal k r in
      let e₃ = and_1 three d (and_1 (three && d) (finite (step_e n delta beta j k r)) h) in
      (and_2 (ok_row k r) (ok_column k r) (and_1 (ok_row k r && ok_column k r) (ok_diagonal k r) e₃), and_2 (ok_row k r && ok_column k r) (ok_diagonal k r) e₃)

  from-j : Bijection j n σ₁ τ₁
  from-j = bijection_from n j σ₁ τ₁ P₁ (λ x p q. f₁ x (omega arith) q)

  same-column : ok_column a A ≡ ok_column b B
  same-column = all-along j n σ₁ τ₁ (λ i. finite (at n (c₃ a A) i j)) (λ i. finite (at n (c₃ b B) i j)) (omega (arith, W.here)) from-j
      (λ i p q. ap finite (column b B C₂.entries_b i p q ∙ C₂.moved i j q W.here ∙ ap (at n (c₂ a A) (σ₁ i)) (f₁ j (omega arith) W.here)
      ∙ sym (column a A C₂.entries_a (σ₁ i) (from-j.to_low i p q) (from-j.to_high i p q))))

  -- where column j is finite, so are d, c's diagonal and e the same
  module _ (ok : ok_column a A ≡ true) where
    column-double : (i : ℕ) → j < i → i < n → Double (at n (c₂ a A) i j)
    column-double i p q = record {
      number = finite_number (at n (c₂ a A) i j) (subst (λ (v : Float). finite v ≡ true) (column a A C₂.entries_a i (omega arith) q) (all-each j n (λ k. finite (at n (c₃ a A) k j)) (omega arith) ok i (omega arith) q));
      double = rw (column-at n j (l₂Of n j a A) (pivot_matrix n j a A.c) W.here C₁.entries_a i (omega arith) q)
          (sub-fits binary64 (at n (l₂Of n j a A) i j) (dot n j (l₂Of n j a A) (pivot_matrix n j a A.c) i));
    }

    same-d : step_d n delta beta j a A ≡ step_d n delta beta j b B
    same-d = ap₂ (λ (x y : Float). d_of x y beta delta) (corner W C₂) (theta_moved n j σ₁ τ₁ W.here P₁ f₁ (c₂ a A) (c₂ b B) C₂ column-double)

    C₃ : Moved n σ₁ (c₃ a A) (c₃ b B)
    C₃ = subst (λ (d : Float). Moved n σ₁ (c₃ a A) (update_diagonal n j d (c₂ b B))) same-d (diagonal-moved n j σ₁ τ₁ W.here P₁ f₁ (step_d n delta beta j a A) (c₂ a A) (c₂ b B) C₂)

    same-e : step_e n delta beta j a A ≡ step_e n delta beta j b B
    same-e = ap₂ ◌⊖◌ same-d (corner W C₃)

    same_row : ok_row a A ≡ ok_row b B
    same_row = all_same 0 j (λ k. finite (at n (l₂Of n j a A) j k)) (λ k. finite (at n (l₂Of n j b B) j k)) (omega arith)
        (λ k p q. ap finite (sym (row_fixed n j σ₁ τ₁ W.here P₁ f₁ (l₂Of n j a A) (l₂Of n j b B) L₂ k q)))

    same-diagonal : ok_diagonal a A ≡ ok_diagonal b B
    same-diagonal = all-along (j + 1) n σ₁ τ₁ (λ i. finite (at n (c₃ a A) i i)) (λ i. finite (at n (c₃ b B) i i)) (omega (arith, W.here)) (bijection_from n (j + 1) σ₁ τ₁ P₁ f₁) (λ i p q. ap finite (C₃.moved i i q q))

    same_parts : step_test n delta beta j a A ≡ step_test n delta beta j b B
    unfolding stored_finite
    same_parts = λ i. same_row i && same-column i && same-diagonal i && finite (same-d i) && finite (same-e i)

  same_test : step_test n delta beta j a A ≡ step_test n delta beta j b B
  same_test = same_tests (step_test n delta beta j a A) (step_test n delta beta j b B)
      (λ e. sym (same_parts (tested a A e).0) ∙ e)
      (λ e. same_parts (same-column ∙ (tested b B e).0) ∙ e)

  step-alike : Together (steps n delta beta) n s (Values n) (suc j) (step_at n delta beta j a tie A) (step_at n delta beta j b tie B)
  unfolding step_at
  step-alike = record {
    same = ap₂ (λ (ok : Bool) (r : Progress). stored ok j (searched tie j r)) same_test same;
    in_step = λ e.
        let ok = tested a A (goes_on A.progress.refused (step_test n delta beta j a A) j e).test in
        rw G.phase2 (record {
          positions = W.next;
          values = record {
            moved_l = L₂;
            moved_c = C₃ ok.0;
            finite_c = λ i p q. all-each (j + 1) n (λ k. finite (at n (c₃ a A) k k)) (omega (arith, W.here)) ok.1 i (omega arith) q;
            same-d = ap₂ (λ (u : List Float) (v : Float). set u j v) L.values.same-d (same-d ok.0);
            same-e = ap₂ (λ (u : List Float) (v : Float). set u j v) L.values.same-e (same-e ok.0);
            length_e = length-set A.e j (step_e n delta beta j a A) ∙ L.values.length_e;
          };
        });
  }

-- ---- whole runs
module _ (n : ℕ) (delta beta : Float) (s : ℕ → ℕ) where
  laws : (May : Type 0) (first second : List ℕ) → Searches May true n s first second → Laws (steps n delta beta) n s (Values n) May first second
  unfolding step_at
  laws May first second S = record {
    leaves_alike = λ j A B pj L. refl;
    leave-alike = λ j A B h. absurd (false≢true h);
    leave-tied = λ j r. refl;
    picks = λ j A B pj L. S.picks j A.p B.p L.positions A.c B.c pj L.values.moved_c (λ i p q. finite_number (at n A.c i i) (L.values.finite_c i p q));
    step-alike = step-alike n delta beta s;
    step-tied = λ j k tie r. refl;
  }

  starts : (s' : ℕ → ℕ) (A B : List Float) → Loaded n s s' A B → Together (steps n delta beta) n s (Values n) 0 (start n A) (start n B)
  starts s' A B D = begins (start-moved n s s' A B D.bijection D.moved) (λ i p q. rw (start-at n A i q) (D.good i i q q).number)
    where
      begins : Moved n s (start n A).c (start n B).c → ((i : ℕ) → 0 ≤ i → i < n → finite (at n (start n A).c i i) ≡ true) → Together (steps n delta beta) n s (Values n) 0 (start n A) (start n B)
      begins C g = unfold start in record {
        same = refl;
        in_step = λ e. record {
          positions = loaded_positions n s s' D.bijection;
          values = record { moved_l = D.moved; moved_c = C; finite_c = g; same-d = refl; same-e = refl; length_e = length-replicate n plus_zero };
        };
      }

  steps_runs : (May : Type 0) (first second : List ℕ) → Searches May true n s first second → (s' : ℕ → ℕ) (A B : List Float) → Loaded n s s' A B
      → Runs (steps n delta beta) n s (Values n) May n (range 0 n (step first n delta beta) (start n A)) (range 0 n (step second n delta beta) (start n B))
  unfolding step
  steps_runs May first second S s' A B D = runs (steps n delta beta) n s (Values n) May first second (laws May first second S) (start n A) (start n B) (starts s' A B D)

  order-laws : OrderLaws (steps n delta beta) n s (Values n)
  unfolding step_at
  order-laws = record {
    leave-order = λ j r. refl;
    step-order = λ j k tie r. refl;
    picks_first = λ j A B pj L. diagonal-picks_first true n j L.positions A.c B.c pj L.values.moved_c (λ i p q. finite_number (at n A.c i i) (L.values.finite_c i p q));
  }

  start-order : (a : List Float) → (start n a).p ≡ identity n
  unfolding start
  start-order a = refl

  steps_own : (s' : ℕ → ℕ) (A B : List Float) → Loaded n s s' A B → ((t : ℕ) → t < n → s t ≡ get_or (range 0 n (step [] n delta beta) (start n A)).p t 0)
      → Own (steps n delta beta) n s (Values n) n (range 0 n (step [] n delta beta) (start n A)) (range 0 n (step [] n delta beta) (start n B))
  unfolding step
  steps_own s' A B D h = own (steps n delta beta) n s (Values n) (laws Unit [] [] (without_numbers true n s)) order-laws (start n A) (start n B) (record { together = starts s' A B D; unmoved = start-order B }) h

-- ---- the scaled factor and the end
abbrev pub end_of : Run → End
end_of r = record { progress = r.progress; l = r.l; e = r.e; p = r.p }

finished : (n : ℕ) (r : Run) → ProgressKept r.progress (end_of (finish n r))
finished n r = go (is (marked r.progress.refused))
  where
    go : Is (marked r.progress.refused) → ProgressKept r.progress (end_of (finish n r))
    go (holds h) = rw (finish-stays n r h) (record { tied = refl; phase2 = refl; refused = λ t e p. refl })
    go (fails h) = rw (finish-goes n r h) (record { tied = refl; phase2 = refl; refused = λ t e p. absurd (false≢true (sym h ∙ ap marked e)) })

-- there is one phase
pub one-phase : (numbers : List ℕ) (n : ℕ) (a : List Float) → (run numbers n a).progress.phase2 ≡ None
one-phase numbers n a = rw run_is ((finished n (stepped numbers n a)).phase2
    ∙ steps_keep numbers n _ _ (λ j r. r.progress.phase2 ≡ None) (record { by_step = λ j k tie r h w e. rw step-at_is e; refused = λ j r h e. e }) a (rw started_is refl))

module _ (n : ℕ) (delta beta : Float) (s : List ℕ) (A B : Run) where
  complete : InStep (steps n delta beta) n (order s) (Values n) n A B → A.progress ≡ B.progress → Going A.progress → BothAlike n s (end_of (finish n A)) (end_of (finish n B))
  complete L same G =
      let l : A.l ≡ B.l = sym (moved_same n L.positions.σ A.l B.l L.positions.fixes L.values.moved_l) in
      let second = sym (ap (λ (r : Progress). r.refused) same) ∙ G.refused in
      rw (finish-goes n A (ap marked G.refused), finish-goes n B (ap marked second)) (record {
        same = λ i. stored (scaled_finite n (dout_of n (L.values.same-d i)) (product n (unit_lower n (l i)) (dout_of n (L.values.same-d i)))) n (counted (inexact_roots n (L.values.same-d i)) (same i));
        completed = λ r. record {
          factors = ap₂ (λ (x d : List Float). product n (unit_lower n x) (dout_of n d)) l L.values.same-d;
          amounts = same-amounts L.positions L.values.same-e L.values.length_e;
          pivots = same-pivots L.positions;
        };
      })

-- the second run has the first one's delta and beta
module _ (n : ℕ) (s s' : ℕ → ℕ) (A B : List Float) (D : Loaded n s s' A B) where
  abbrev delta : Float
  delta = delta_of (diagonal_max n A) (off_diagonal_max n A)

  abbrev beta : Float
  beta = beta_of n (diagonal_max n A) (off_diagonal_max n A)

  second_run : (numbers : List ℕ) → finish n (range 0 n (step numbers n delta beta) (start n B)) ≡ run numbers n B
  unfolding run
  second_run numbers = ap₂ (λ (v w : Float). finish n (range 0 n (step numbers n (delta_of v w) (beta_of n v w)) (start n B))) (gamma_same D) (off_diagonal_max-along n s s' A B D.bijection D.moved.moved (all-double D))

module _ (n : ℕ) (s : List ℕ) (s' : ℕ → ℕ) (A B : List Float) (D : Loaded n (order s) s' A B) where
  abbrev M : Steps Run
  M = steps n (delta n (order s) s' A B D) (beta n (order s) s' A B D)

  pub gmw81-ended : (May : Type 0) (first second : List ℕ) → Searches May true n (order s) first second → Ended May n s (end_of (run first n A)) (end_of (run second n B))
  unfolding run
  gmw81-ended May first second S = subst (λ (r : Run). Ended May n s (end_of (run first n A)) (end_of r)) (second_run n (order s) s' A B D second)
      (runs_end M n s (Values n) May _ _ _ _ (finished n _) (finished n _) (complete n _ _ s _ _) (steps_runs n _ _ (order s) May first second S s' A B D))

  -- s is the first run's order, and there are no numbers
  pub gmw81-own : (run [] n A).p ≡ s → (run [] n A).progress.phase2 ≡ None → (run [] n A).progress.refused ≡ None → BothAlike n s (end_of (run [] n A)) (end_of (run [] n B))
  unfolding run
  gmw81-own e p q = subst (λ (r : Run). BothAlike n s (end_of (run [] n A)) (end_of r)) (second_run n (order s) s' A B D [])
      (together_end M n s (Values n) Unit _ _ _ _ (finished n _) (finished n _) (complete n _ _ s _ _)
      (steps_own n _ _ (order s) s' A B D (λ t h. ap (λ (x : List ℕ). get_or x t 0) (sym e ∙ finish-order n (stepped [] n A)))).together p q)
