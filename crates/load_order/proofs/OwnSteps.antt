-- Two runs in step, without numbers, the second on the matrix reloaded by the first one's pivots: the second makes no swap, tied or not.
use mathlib.Core.Path.{◌≡◌, refl, sym, ap, ◌∙◌, subst}
use mathlib.Core.List.{List, []}
use mathlib.Core.Bool.{Bool}
use Prim.Native.Nat.{ℕ, suc, ◌+◌, ◌<◌}
use native.Mathlib.Decide.{ℕ_discrete}
use native.Mathlib.Omega.{arith}
use lib.ListN.{get_or, set}
use lib.Seq.{get_or-set_other}
use borrow.Author.Tests.{eq-eqb, ne_eqb}
use Rattle.arithmetic.specs.Loop.{range}
use Rattle.arithmetic.proofs.Cases.{Is, is, holds, fails}
use Rattle.arithmetic.proofs.LoopLaws.{range2_ind}
use Rattle.matrix.proofs.Bijection.{injective}
use Rattle.matrix.proofs.SwapLaws.{transpose_first}
use Rattle.matrix.proofs.TableLaws.{get_or-table}
use Rattle.methods.specs.Progress.{stopped}
use Rattle.methods.specs.Result.{identity}
use Rattle.methods.specs.Statements.{pivot_list}
use Rattle.methods.proofs.Moved.{get_or-pivot}
use Rattle.methods.proofs.Stopped.{Going, going, stays, goes}
use Rattle.load_order.proofs.Lockstep.{Steps, next, step, InStep, Together, stopped-together, going_together, Laws}
use Rattle.load_order.proofs.Picks.{PicksFirst}
use Rattle.load_order.proofs.Positions.{Corresponding, pivoted}

-- ---- a pivot at j leaves the places before j, and nothing moves where it is 0
pivot-low : (j k : ℕ) (p : List ℕ) (t : ℕ) → t < j → get_or (pivot_list 0 j k p) t 0 ≡ get_or p t 0
unfolding pivot_list
pivot-low j k p t h = elim (ℕ_discrete k 0) [
  | yes e ↦ rw (eq-eqb k 0 e)
  | no e ↦ rw (ne_eqb k 0 e) (get_or-set_other (set p j (get_or p (j + k) 0)) (j + k) t (get_or p j 0) 0 (λ d. omega arith) ∙ get_or-set_other p j t (get_or p (j + k) 0) 0 (λ d. omega arith))
]

pivot-none : (j k : ℕ) (p : List ℕ) → k ≡ 0 → pivot_list 0 j k p ≡ p
unfolding pivot_list
pivot-none j k p e = rw (eq-eqb k 0 e)

module _ {Run : Type 0} (M : Steps Run) (n : ℕ) (s : ℕ → ℕ) (Values : (ℕ → ℕ) → ℕ → Run → Run → Type 0) where
  -- what a method has to show beside its laws
  pub record OrderLaws : Type 0 where
    pub leave-order : (j : ℕ) (r : Run) → M.order (M.leave j r) ≡ M.order r
    pub step-order : (j k : ℕ) (tie : Bool) (r : Run) → M.order (M.step_at j k tie r) ≡ pivot_list 0 j k (M.order r)
    pub picks_first : (j : ℕ) (A B : Run) → j < n → (L : InStep M n s Values j A B) → PicksFirst n L.positions.σ j (M.search_from [] j A) (M.search_from [] j B)

  -- s lists the first run's pivots before step j
  abbrev Leads : ℕ → Run → Type 0
  Leads j r = (t : ℕ) → t < j → s t ≡ get_or (M.order r) t 0

  pub record Own (j : ℕ) (A B : Run) : Type 0 where
    pub together : Together M n s Values j A B
    pub unmoved : M.order B ≡ identity n

  module _ (K : Laws M n s Values Unit [] []) (O : OrderLaws) where
    -- a step keeps the places before it
    next_low : (j : ℕ) (r : Run) (t : ℕ) → t < j → get_or (M.order (next M [] j r)) t 0 ≡ get_or (M.order r) t 0
    next_low j r t h = go (is (M.leaves j r))
      where
        go : Is (M.leaves j r) → get_or (M.order (next M [] j r)) t 0 ≡ get_or (M.order r) t 0
        go (holds e) = rw (e, O.leave-order j r)
        go (fails e) = rw (e, O.step-order j (M.search_from [] j r).index (M.search_from [] j r).tied r) (pivot-low j _ (M.order r) t h)

    step-low : (j : ℕ) (r : Run) → Leads (suc j) (step M [] j r) → Leads j r
    step-low j r h t l = h t (omega arith) ∙ go (is (stopped (M.progress r)))
      where
        go : Is (stopped (M.progress r)) → get_or (M.order (step M [] j r)) t 0 ≡ get_or (M.order r) t 0
        go (holds e) = rw (stays M.progress (next M [] j) r e)
        go (fails e) = rw (goes M.progress (next M [] j) r e) (next_low j r t l)

    -- two runs that go on
    module _ (j : ℕ) (A B : Run) (pj : j < n) (L : InStep M n s Values j A B) (same : M.progress A ≡ M.progress B) (G : Going (M.progress A)) (U : M.order B ≡ identity n) where
      abbrev a : ℕ
      a = (M.search_from [] j A).index

      abbrev b : ℕ
      b = (M.search_from [] j B).index

      abbrev tie : Bool
      tie = (M.search_from [] j A).tied

      W : PicksFirst n L.positions.σ j (M.search_from [] j A) (M.search_from [] j B)
      W = O.picks_first j A B pj L

      -- position j of the second run holds the pivot of the first
      here : s j ≡ get_or (pivot_list 0 j a (M.order A)) j 0 → L.positions.σ j ≡ j + a
      here h =
          let P = L.positions.permuted_a in
          let e : s j ≡ get_or (M.order A) (L.positions.σ j) 0 = ap s (sym (ap (λ (q : List ℕ). get_or q j 0) U ∙ get_or-table n (λ i. i) j 0 pj)) ∙ L.positions.own j pj in
          let f : s j ≡ get_or (M.order A) (j + a) 0 =
          h ∙ get_or-pivot 0 j _ (M.order A) j (omega (arith, W.below, P.len)) ∙ ap (λ (x : ℕ). get_or (M.order A) x 0) (transpose_first j _ j refl) in
          injective P.order (L.positions.σ j) (j + a) (omega arith) (L.positions.bijection.to_high j (omega arith) pj) (omega arith) W.below (sym e ∙ f)

      searched : s j ≡ get_or (pivot_list 0 j a (M.order A)) j 0
          → Own (suc j) (M.step_at j a tie A) (M.step_at j b (M.search_from [] j B).tied B)
      searched h =
          let z : b ≡ 0 = W.picked (here h) in
          let C : Corresponding n L.positions.σ j a b = record {
            here = pj;
            first = W.below;
            second = omega arith;
            corresponds = ap L.positions.σ (omega arith) ∙ here h;
          } in
          record {
            together = subst (λ (t : Bool). Together M n s Values (suc j) (M.step_at j a tie A) (M.step_at j b t B)) W.same-tie
                (K.step-alike j _ _ tie A B L (pivoted n s j (M.order A) (M.order B) L.positions _ _ C) same G);
            unmoved = O.step-order j _ _ B ∙ pivot-none j _ (M.order B) z ∙ U;
          }

      next_own : Leads (suc j) (next M [] j A) → Own (suc j) (next M [] j A) (next M [] j B)
      next_own h = go (is (M.leaves j A)) h
        where
          go : Is (M.leaves j A) → Leads (suc j) (next M [] j A) → Own (suc j) (next M [] j A) (next M [] j B)
          go (holds e) h = rw (e, sym (K.leaves_alike j A B pj L) ∙ e) (record { together = K.leave-alike j A B e L same G; unmoved = O.leave-order j B ∙ U })
          go (fails e) h = rw (e, sym (K.leaves_alike j A B pj L) ∙ e) (searched ((rw e at (h j (omega arith))) ∙ ap (λ (p : List ℕ). get_or p j 0) (O.step-order j _ _ A)))

    step-own : (j : ℕ) (A B : Run) → j < n → Own j A B → Leads (suc j) (step M [] j A) → Own (suc j) (step M [] j A) (step M [] j B)
    step-own j A B pj T h = go (is (stopped (M.progress A)))
      where
        second : stopped (M.progress B) ≡ stopped (M.progress A)
        second = ap stopped (sym T.together.same)

        go : Is (stopped (M.progress A)) → Own (suc j) (step M [] j A) (step M [] j B)
        go (holds e) = rw (stays M.progress (next M [] j) A e, stays M.progress (next M [] j) B (second ∙ e))
            (record { together = stopped-together M n s Values j A B e T.together; unmoved = T.unmoved })
        go (fails e) =
            let G = going (M.progress A) e in
            rw (goes M.progress (next M [] j) A e, goes M.progress (next M [] j) B (second ∙ e))
            (next_own j A B pj (going_together M n s Values j A B G T.together) T.together.same G T.unmoved (rw (goes M.progress (next M [] j) A e) at h))

    pub own : (A B : Run) → Own 0 A B → Leads n (range 0 n (step M []) A) → Own n (range 0 n (step M []) A) (range 0 n (step M []) B)
    own A B T = range2_ind (λ j A B. Leads j A → Own j A B) 0 n (step M []) (step M []) A B (omega arith) (λ h. T) (λ j p q A B I h. step-own j A B q (I (step-low j A h)) h)
