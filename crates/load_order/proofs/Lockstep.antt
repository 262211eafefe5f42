-- Two runs of one method in step, the first on a matrix, the second on its reloading: the argument for every method, over its steps.
use mathlib.Core.Path.{◌≡◌, refl, sym, ap, ap₂, ◌∙◌, subst}
use mathlib.Core.List.{List}
use mathlib.Core.Bool.{Bool, true, cond, ◌||◌, false≢true}
use Prim.Native.Nat.{ℕ, suc, ◌<◌}
use native.Mathlib.Omega.{arith}
use Rattle.arithmetic.specs.Loop.{range}
use Rattle.arithmetic.proofs.LoopLaws.{range2_ind}
use Rattle.matrix.specs.declared.utils.Found.{Found}
use Rattle.arithmetic.proofs.Cases.{Is, is, holds, fails}
use Rattle.methods.specs.Marks.{mark, marked, Mark}
use Rattle.methods.specs.Progress.{stopped}
use Rattle.std.specs.Prelude.{None, Some}
use Rattle.methods.specs.declared.progress.Progress.{Progress}
use Rattle.methods.proofs.MarkLaws.{mark-keeps, mark-some}
use Rattle.methods.proofs.Stopped.{Going, going, unless_stopped, stays, goes}
use Rattle.load_order.proofs.Positions.{Positions, Pivoted, pivoted}
use Rattle.load_order.proofs.Picks.{Picks, correspond, tied}

-- what the argument sees of a method
pub record Steps (Run : Type 0) : Type 0 where
  pub progress : Run → Progress
  pub order : Run → List ℕ
  -- the test before the search, and what becomes of a run that it ends
  pub leaves : ℕ → Run → Bool
  pub leave : ℕ → Run → Run
  -- its contracts have these numbers, none where the list is empty
  pub search_from : List ℕ → ℕ → Run → Found
  -- the step with its pivot, and whether its search was tied
  pub step_at : ℕ → ℕ → Bool → Run → Run

abbrev pub next : {Run : Type 0} → Steps Run → List ℕ → ℕ → Run → Run
next M numbers j r = cond (M.leaves j r) (M.leave j r) (M.step_at j (M.search_from numbers j r).index (M.search_from numbers j r).tied r)

abbrev pub step : {Run : Type 0} → Steps Run → List ℕ → ℕ → Run → Run
step M numbers j r = unless_stopped M.progress (next M numbers j) r

-- the step before which a run stands after j steps: where it left phase one, or j
abbrev pub reached : ℕ → Mark → ℕ
reached j None = j
reached j (Some k) = k

reached_stays : (i j : ℕ) (m q : Mark) → (marked m || marked q) ≡ true → q ≡ None → reached i m ≡ reached j m
reached_stays i j None q h e = absurd (false≢true (sym (ap marked e) ∙ h))
reached_stays i j (Some k) q h e = refl

-- s is the load order; Values: what holds of the values of two runs before step j, along the positions
module _ {Run : Type 0} (M : Steps Run) (n : ℕ) (s : ℕ → ℕ) (Values : (ℕ → ℕ) → ℕ → Run → Run → Type 0) where
  pub record InStep (j : ℕ) (A B : Run) : Type 0 where
    pub positions : Positions n s j (M.order A) (M.order B)
    pub values : Values positions.σ j A B

  -- after j steps
  pub record Together (j : ℕ) (A B : Run) : Type 0 where
    pub same : M.progress A ≡ M.progress B
    pub in_step : (M.progress A).refused ≡ None → InStep (reached j (M.progress A).phase2) A B

  -- runs that stopped stand as they did; those that go on stand before step j
  pub stopped-together : (j : ℕ) (A B : Run) → stopped (M.progress A) ≡ true → Together j A B → Together (suc j) A B
  stopped-together j A B h T = record {
    same = T.same;
    in_step = λ r. subst (λ (i : ℕ). InStep i A B) (reached_stays j (suc j) (M.progress A).phase2 (M.progress A).refused h r) (T.in_step r);
  }

  pub going_together : (j : ℕ) (A B : Run) → Going (M.progress A) → Together j A B → InStep j A B
  going_together j A B G T = subst (λ (m : Mark). InStep (reached j m) A B) G.phase2 (T.in_step G.refused)

  -- May: whether ties may part the runs
  module _ (May : Type 0) where
    pub data Runs (j : ℕ) (A B : Run) : Type 0 where
      together : Together j A B → Runs j A B
      apart : May → (t : ℕ) → (M.progress A).tied ≡ Some t → (M.progress B).tied ≡ Some t → Runs j A B

    -- the contracts' numbers in the first run and in the second
    module _ (first second : List ℕ) where
      -- what a method has to show
      pub record Laws : Type 0 where
        pub leaves_alike : (j : ℕ) (A B : Run) → j < n → InStep j A B → M.leaves j A ≡ M.leaves j B
        pub leave-alike : (j : ℕ) (A B : Run) → M.leaves j A ≡ true → InStep j A B → M.progress A ≡ M.progress B → Going (M.progress A) → Together (suc j) (M.leave j A) (M.leave j B)
        pub leave-tied : (j : ℕ) (r : Run) → (M.progress (M.leave j r)).tied ≡ (M.progress r).tied
        pub picks : (j : ℕ) (A B : Run) → j < n → (L : InStep j A B) → Picks May n L.positions.σ j (M.search_from first j A) (M.search_from second j B)
        pub step-alike : (j a b : ℕ) (tie : Bool) (A B : Run) (L : InStep j A B) → Pivoted n s j (M.order A) (M.order B) L.positions a b → M.progress A ≡ M.progress B → Going (M.progress A)
            → Together (suc j) (M.step_at j a tie A) (M.step_at j b tie B)
        pub step-tied : (j k : ℕ) (tie : Bool) (r : Run) → (M.progress (M.step_at j k tie r)).tied ≡ mark (M.progress r).tied tie j

      module _ (K : Laws) where
        -- the first tie stays
        next_keeps : (numbers : List ℕ) (j t : ℕ) (r : Run) → (M.progress r).tied ≡ Some t → (M.progress (next M numbers j r)).tied ≡ Some t
        next_keeps numbers j t r e = go (is (M.leaves j r))
          where
            go : Is (M.leaves j r) → (M.progress (next M numbers j r)).tied ≡ Some t
            go (holds h) = rw h (K.leave-tied j r ∙ e)
            go (fails h) = rw h (K.step-tied j _ _ r ∙ mark-keeps (M.progress r).tied _ j t e)

        step_keeps : (numbers : List ℕ) (j t : ℕ) (r : Run) → (M.progress r).tied ≡ Some t → (M.progress (step M numbers j r)).tied ≡ Some t
        step_keeps numbers j t r e = go (is (stopped (M.progress r)))
          where
            go : Is (stopped (M.progress r)) → (M.progress (step M numbers j r)).tied ≡ Some t
            go (holds h) = rw h e
            go (fails h) = rw h (next_keeps numbers j t r e)

        -- two runs that go on
        module _ (j : ℕ) (A B : Run) (pj : j < n) (L : InStep j A B) (same : M.progress A ≡ M.progress B) (G : Going (M.progress A)) where
          searched : Picks May n L.positions.σ j (M.search_from first j A) (M.search_from second j B)
              → Runs (suc j) (M.step_at j (M.search_from first j A).index (M.search_from first j A).tied A) (M.step_at j (M.search_from second j B).index (M.search_from second j B).tied B)
          searched (correspond e W) =
              together (subst (λ (b : Bool). Together (suc j) (M.step_at j (M.search_from first j A).index (M.search_from first j A).tied A) (M.step_at j (M.search_from second j B).index b B)) e
              (K.step-alike j (M.search_from first j A).index (M.search_from second j B).index (M.search_from first j A).tied A B L (pivoted n s j (M.order A) (M.order B) L.positions _ _ W) same G))
          searched (tied m e f) =
              let r = mark-some (M.progress A).tied j in
              apart m r.0
              (K.step-tied j _ _ A ∙ ap (λ (b : Bool). mark (M.progress A).tied b j) e ∙ r.1)
              (K.step-tied j _ _ B ∙ ap₂ (λ (q : Progress) (b : Bool). mark q.tied b j) (sym same) f ∙ r.1)

          next_runs : Runs (suc j) (next M first j A) (next M second j B)
          next_runs = go (is (M.leaves j A))
            where
              go : Is (M.leaves j A) → Runs (suc j) (next M first j A) (next M second j B)
              go (holds h) = rw (h, sym (K.leaves_alike j A B pj L) ∙ h) (together (K.leave-alike j A B h L same G))
              go (fails h) = rw (h, sym (K.leaves_alike j A B pj L) ∙ h) (searched (K.picks j A B pj L))

        step-runs : (j : ℕ) (A B : Run) → j < n → Runs j A B → Runs (suc j) (step M first j A) (step M second j B)
        step-runs j A B pj (apart m t p q) = apart m t (step_keeps first j t A p) (step_keeps second j t B q)
        step-runs j A B pj (together T) = go (is (stopped (M.progress A)))
          where
            same : stopped (M.progress B) ≡ stopped (M.progress A)
            same = ap stopped (sym T.same)

            go : Is (stopped (M.progress A)) → Runs (suc j) (step M first j A) (step M second j B)
            go (holds h) = rw (stays M.progress (next M first j) A h, stays M.progress (next M second j) B (same ∙ h)) (together (stopped-together j A B h T))
            go (fails h) =
                let G = going (M.progress A) h in
                rw (goes M.progress (next M first j) A h, goes M.progress (next M second j) B (same ∙ h)) (next_runs j A B pj (going_together j A B G T) T.same G)

        pub runs : (A B : Run) → Together 0 A B → Runs n (range 0 n (step M first) A) (range 0 n (step M second) B)
        runs A B T = range2_ind Runs 0 n (step M first) (step M second) A B (omega arith) (together T) (λ j p q r t. step-runs j r t q)
