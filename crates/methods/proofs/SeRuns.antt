-- What every statement of SE90 and SE99 keeps, the run keeps: the pivots are rows, phase one is left at a row where a test passed,
-- and two rows are left for the pair. So p is a permutation.
use mathlib.Core.Path.{◌≡◌, refl, sym, ap, ◌∙◌, subst}
use mathlib.Core.Bool.{Bool, true, false, cond}
use mathlib.Core.Logic.{◌⊎◌, inl, inr}
use mathlib.Core.List.{List}
use Prim.Native.Nat.{ℕ, ◌+◌, ◌-◌, ◌≤◌, ◌<◌}
use native.Mathlib.Decide.{dec_lt}
use native.Mathlib.Omega.{arith}
use borrow.Author.Tests.{eqb-true, eqb-false}
use lib.Dec.{eqb}
use lib.ListN.{length, get_or, set, length-set, length-replicate}
use lib.Ieee.{Float, nan, lt}
use Rattle.arithmetic.specs.Double.{plus_zero, one, epsilon, ◌⊕◌, ◌⊖◌, ◌⊗◌, ◌⊘◌, abs}
use Rattle.arithmetic.specs.Loop.{range}
use Rattle.arithmetic.proofs.LoopLaws.{range_none, range-ind}
use Rattle.arithmetic.proofs.OrderLaws.{or_1}
use Rattle.matrix.specs.Matrix.{at}
use Rattle.arithmetic.proofs.Cases.{Is, is, holds, fails}
use Rattle.methods.specs.Marks.{marked, Mark}
use Rattle.methods.specs.Progress.{stopped}
use Rattle.methods.specs.Statements.{diagonal_max, pivot_matrix}
use Rattle.methods.specs.Se.{Run, start, leaves_before, leaves_after, leave, pivot, factorize, step_at, phase_one_step, in_phase_one, phase_one, row_sum, column_sum, bounds, update_bounds, phase_two_step_at, phase_two_step, pair_of, one_of, add_pair, add_one, last_pair, last_one, begin, pairs, phase_two_from, phase_two_after, phase_two, run}
use Rattle.std.specs.Prelude.{None, Some}
use Rattle.methods.specs.declared.schnabel_eskow.Tolerances.{Tolerances}
use Rattle.methods.specs.declared.schnabel_eskow.Variant.{Variant}
use Rattle.methods.proofs.Moved.{length-pivot}
use Rattle.methods.proofs.Pivots.{pick-below, diagonal-below, Permuted, identity-permuted, pivot-permuted}
use Rattle.methods.proofs.Refused.{unmarked_never}
use Rattle.methods.proofs.SeLaws.{cond_keeps, step_at-is, phase_one_step-is, in_phase_one-is, phase_one-is, phase_two_step-is, pairs_is, phase_two_from-is, after_never, after-step, run_is, Below, never_below, mark-below}

-- the test before the search, or the one after it
abbrev pub Leaves : Variant → Tolerances → Float → ℕ → ℕ → List Float → Type 0
Leaves v t gamma n j l = (leaves_before v t gamma n j l ≡ true) ⊎ (leaves_after v t gamma n j l ≡ true)

-- ---- P holds after each statement of phase one where it holds before
pub record KeptInPhaseOne (v : Variant) (t : Tolerances) (gamma : Float) (n : ℕ) (P : Run → Type 0) : Type 0 where
  pub by_leave : (j : ℕ) (s : Run) → j < n → s.progress.phase2 ≡ None → Leaves v t gamma n j s.l → P s → P (leave j s)
  pub by_pivot : (j k : ℕ) (tie : Bool) (s : Run) → j < n → j + k < n → s.progress.phase2 ≡ None → P s → P (pivot n j k tie s)
  pub by_factorize : (j : ℕ) (s : Run) → j < n → s.progress.phase2 ≡ None → P s → P (factorize n j s)

-- ---- Q holds after phase one where P does, and after each statement of phase two where it holds before
pub record KeptInPhaseTwo (v : Variant) (t : Tolerances) (gamma : Float) (n : ℕ) (P Q : Run → Type 0) : Type 0 where
  pub after_one : (s : Run) → P s → Q s
  pub by_begin : (k : ℕ) (s : Run) → k < n → Q s → Q (begin n k s)
  pub by_step : (j k : ℕ) (s : Run) → j < n → j + k < n → Q s → Q (phase_two_step_at v t gamma n j k s)
  pub by_pair : (s : Run) → 2 ≤ n → Q s → Q (last_pair v t gamma n s)
  pub by_one : (s : Run) → 1 ≤ n → s.progress.phase2 ≡ Some (n - 1) → P s → Q (last_one v t gamma n s)

-- ---- phase one
module _ (v : Variant) (t : Tolerances) (numbers : List ℕ) (gamma : Float) (n : ℕ) (P : Run → Type 0) (K : KeptInPhaseOne v t gamma n P) where
  step_at-keeps : (j k : ℕ) (tie : Bool) (s : Run) → j < n → j + k < n → s.progress.phase2 ≡ None → P s → P (step_at v t gamma n j k tie s)
  step_at-keeps j k tie s h hk m b = subst P (sym (step_at-is v t gamma n j k tie s)) (go (is (leaves_after v t gamma n j (pivot_matrix n j k s.l))))
    where
      s₁ : Run
      s₁ = pivot n j k tie s

      b₁ : P s₁
      b₁ = K.by_pivot j k tie s h hk m b

      go : Is (leaves_after v t gamma n j (pivot_matrix n j k s.l)) → P (cond (leaves_after v t gamma n j (pivot_matrix n j k s.l)) (leave j s₁) (factorize n j s₁))
      go (holds e) = rw e (K.by_leave j s₁ h (unfold pivot in m) (inr (unfold pivot in e)) b₁)
      go (fails e) = rw e (K.by_factorize j s₁ h (unfold pivot in m) b₁)

  phase_one_step-keeps : (j : ℕ) (s : Run) → j < n → s.progress.phase2 ≡ None → P s → P (phase_one_step v t numbers gamma n j s)
  phase_one_step-keeps j s h m b = go (is (leaves_before v t gamma n j s.l))
    where
      go : Is (leaves_before v t gamma n j s.l) → P (phase_one_step v t numbers gamma n j s)
      go (holds e) = rw (phase_one_step-is v t numbers gamma n j s, e) (K.by_leave j s h m (inl e) b)
      go (fails e) = rw (phase_one_step-is v t numbers gamma n j s, e) (step_at-keeps j _ _ s h (diagonal-below numbers s.p false n j s.l h) m b)

  pub in_phase_one-keeps : (j : ℕ) (s : Run) → j < n → P s → P (in_phase_one v t numbers gamma n j s)
  in_phase_one-keeps j s h b = go (is (stopped s.progress))
    where
      go : Is (stopped s.progress) → P (in_phase_one v t numbers gamma n j s)
      go (holds e) = rw (in_phase_one-is v t numbers gamma n j s, e) b
      go (fails e) = rw (in_phase_one-is v t numbers gamma n j s, e) (phase_one_step-keeps j s h (unmarked_never s.progress.phase2 (or_1 (marked s.progress.phase2) (marked s.progress.refused) e)) b)

  pub phase_one-keeps : (s : Run) → P s → P (phase_one v t numbers gamma n s)
  phase_one-keeps s b = subst P (sym (phase_one-is v t numbers gamma n s)) (range-ind (λ i x. P x) 0 n (in_phase_one v t numbers gamma n) s (omega arith) b (λ i p q x h. in_phase_one-keeps i x q h))

-- it is left at a step below n
below_one : (v : Variant) (t : Tolerances) (gamma : Float) (n : ℕ) → KeptInPhaseOne v t gamma n (λ s. Below n s.progress.phase2)
unfolding pivot factorize
below_one v t gamma n = record { by_leave = λ j s h m w b. mark-below n j s.progress.phase2 true h b; by_pivot = λ j k tie s h hk m b. b; by_factorize = λ j s h m b. b }

below-start : (n : ℕ) (a : List Float) → Below n (start n a).progress.phase2
unfolding start
below-start n a = never_below n

pub phase_one-below : (v : Variant) (t : Tolerances) (numbers : List ℕ) (gamma : Float) (n : ℕ) (a : List Float) → Below n (phase_one v t numbers gamma n (start n a)).progress.phase2
phase_one-below v t numbers gamma n a = phase_one-keeps v t numbers gamma n (λ s. Below n s.progress.phase2) (below_one v t gamma n) (start n a) (below-start n a)

-- ---- g has n elements throughout
length-written : {A : Type 0} (a b : ℕ) (f : ℕ → List A → A) (l : List A) → a ≤ b → length (range a b (λ i h. set h i (f i h)) l) ≡ length l
length-written a b f l h = range-ind (λ i x. length x ≡ length l) a b (λ i h. set h i (f i h)) l h refl (λ i p q x e. length-set x i (f i x) ∙ e)

length-bounds : (n k : ℕ) (l g : List Float) → k ≤ n → length (bounds n k l g) ≡ length g
unfolding bounds
length-bounds n k l g h = length-written k n (λ i x. at n l i i ⊖ row_sum n l i k i ⊖ column_sum n l i (i + 1) n) g h

length-update_bounds : (n j : ℕ) (l : List Float) (normj : Float) (g : List Float) → j < n → length (update_bounds n j l normj g) ≡ length g
unfolding update_bounds
length-update_bounds n j l normj g h = cond_keeps (λ x. length x ≡ length g) (lt (one ⊗ epsilon) (abs (at n l j j ⊖ normj))) _ g
    (length-written (j + 1) n (λ i x. get_or x i nan ⊕ abs (at n l i j) ⊗ (one ⊖ normj ⊘ at n l j j)) g (omega arith)) refl

abbrev Sized : ℕ → Run → Type 0
Sized n s = length s.g ≡ n

sized_one : (v : Variant) (t : Tolerances) (gamma : Float) (n : ℕ) → KeptInPhaseOne v t gamma n (Sized n)
unfolding pivot factorize
sized_one v t gamma n = record { by_leave = λ j s h m w b. b; by_pivot = λ j k tie s h hk m b. b; by_factorize = λ j s h m b. b }

sized_start : (n : ℕ) (a : List Float) → Sized n (start n a)
unfolding start
sized_start n a = length-replicate n plus_zero

sized_begin : (n k : ℕ) (s : Run) → k < n → Sized n s → Sized n (begin n k s)
unfolding begin
sized_begin n k s h b = length-bounds n k s.l s.g (omega arith) ∙ b

sized_step : (v : Variant) (t : Tolerances) (gamma : Float) (n j k : ℕ) (s : Run) → j < n → Sized n s → Sized n (phase_two_step_at v t gamma n j k s)
unfolding phase_two_step_at
sized_step v t gamma n j k s h b = rw (length-update_bounds, length-pivot) b

-- ---- phase two
record Both (n : ℕ) (Q : Run → Type 0) (s : Run) : Type 0 where
  sized : Sized n s
  kept : Q s

module _ (v : Variant) (t : Tolerances) (numbers : List ℕ) (gamma : Float) (n : ℕ) (P Q : Run → Type 0) (K : KeptInPhaseTwo v t gamma n P Q) where
  phase_two_step-keeps : (j : ℕ) (s : Run) → j < n → Both n Q s → Both n Q (phase_two_step v t numbers gamma n j s)
  phase_two_step-keeps j s h b = subst (Both n Q) (sym (phase_two_step-is v t numbers gamma n j s)) (cond_keeps (Both n Q) (marked s.progress.refused) _ _ b (record {
    sized = sized_step v t gamma n j _ s h b.sized;
    kept = K.by_step j _ s h (pick-below numbers s.p false s.g n j b.sized h) b.kept;
  }))

  steps_keep : (k : ℕ) (s : Run) → Both n Q s → Both n Q (range k (n - 2) (phase_two_step v t numbers gamma n) s)
  steps_keep k s b = elim (dec_lt (n - 2) k) [
    | yes h ↦ subst (Both n Q) (sym (range_none k (n - 2) (phase_two_step v t numbers gamma n) s (omega arith))) b
    | no h ↦ range-ind (λ i x. Both n Q x) k (n - 2) (phase_two_step v t numbers gamma n) s (omega arith) b (λ i p q x r. phase_two_step-keeps i x (omega arith) r)
  ]

  pairs-keep : (k : ℕ) (s : Run) → k < n → 2 ≤ n → Both n Q s → Q (pairs v t numbers gamma n k s)
  pairs-keep k s h h2 b =
      let s₁ = range k (n - 2) (phase_two_step v t numbers gamma n) (begin n k s) in
      let b₁ = steps_keep k (begin n k s) (record { sized = sized_begin n k s h b.sized; kept = K.by_begin k s h b.kept }) in
      subst Q (sym (pairs_is v t numbers gamma n k s)) (cond_keeps Q (marked s₁.progress.refused) _ _ b₁.kept (K.by_pair s₁ h2 b₁.kept))

  from-keeps : (k : ℕ) (s : Run) → k < n → s.progress.phase2 ≡ Some k → Sized n s → P s → Q (phase_two_from v t numbers gamma n k s)
  from-keeps k s h m z b = subst Q (sym (phase_two_from-is v t numbers gamma n k s)) (go (is (eqb k (n - 1))))
    where
      go : Is (eqb k (n - 1)) → Q (cond (eqb k (n - 1)) (last_one v t gamma n s) (pairs v t numbers gamma n k s))
      go (holds e) = rw e (K.by_one s (omega arith) (m ∙ ap Some (eqb-true k (n - 1) e)) b)
      go (fails e) = rw e (pairs-keep k s h (omega (arith, eqb-false k (n - 1) e)) (record { sized = z; kept = K.after_one s b }))

  after-keeps : (m : Mark) (s : Run) → s.progress.phase2 ≡ m → Below n m → Sized n s → P s → Q (phase_two_after v t numbers gamma n m s)
  after-keeps None s e h z b = subst Q (sym (after_never v t numbers gamma n None s refl)) (K.after_one s b)
  after-keeps (Some k) s e h z b = subst Q (sym (after-step v t numbers gamma n (Some k) k s refl)) (from-keeps k s (h k refl) e z b)

-- after phase one from the start
pub phase_two-keeps : (v : Variant) (t : Tolerances) (numbers : List ℕ) (gamma : Float) (n : ℕ) (a : List Float) (P Q : Run → Type 0) → KeptInPhaseTwo v t gamma n P Q
    → let s = phase_one v t numbers gamma n (start n a) in P s → Q (phase_two v t numbers gamma n s)
phase_two-keeps v t numbers gamma n a P Q K b =
    let s = phase_one v t numbers gamma n (start n a) in
    after-keeps v t numbers gamma n P Q K s.progress.phase2 s refl (phase_one-below v t numbers gamma n a) (phase_one-keeps v t numbers gamma n (Sized n) (sized_one v t gamma n) (start n a) (sized_start n a)) b

-- ---- a whole run
pub run-keeps : (v : Variant) (t : Tolerances) (numbers : List ℕ) (n : ℕ) (a : List Float) (P Q : Run → Type 0)
    → KeptInPhaseOne v t (diagonal_max n a) n P → KeptInPhaseTwo v t (diagonal_max n a) n P Q → P (start n a) → Q (run v t numbers n a)
run-keeps v t numbers n a P Q one two b = subst Q (sym (run_is v t numbers n a)) (phase_two-keeps v t numbers (diagonal_max n a) n a P Q two (phase_one-keeps v t numbers (diagonal_max n a) n P one (start n a) b))

-- ---- p is a permutation throughout
permuted_one : (v : Variant) (t : Tolerances) (gamma : Float) (n : ℕ) → KeptInPhaseOne v t gamma n (λ s. Permuted n s.p)
unfolding pivot factorize
permuted_one v t gamma n = record { by_leave = λ j s h m w P. P; by_pivot = λ j k tie s h hk m P. pivot-permuted n j k s.p hk P; by_factorize = λ j s h m P. P }

permuted_two : (v : Variant) (t : Tolerances) (gamma : Float) (n : ℕ) → KeptInPhaseTwo v t gamma n (λ s. Permuted n s.p) (λ s. Permuted n s.p)
unfolding begin phase_two_step_at last_pair last_one pair_of one_of add_pair add_one
permuted_two v t gamma n = record {
  after_one = λ s P. P;
  by_begin = λ k s h P. P;
  by_step = λ j k s h hk P. pivot-permuted n j k s.p hk P;
  by_pair = λ s h P. P;
  by_one = λ s h m P. P;
}

permuted_start : (n : ℕ) (a : List Float) → Permuted n (start n a).p
unfolding start
permuted_start n a = identity-permuted n

pub run-permuted : (v : Variant) (t : Tolerances) (numbers : List ℕ) (n : ℕ) (a : List Float) → Permuted n (run v t numbers n a).p
run-permuted v t numbers n a = run-keeps v t numbers n a (λ s. Permuted n s.p) (λ s. Permuted n s.p) (permuted_one v t (diagonal_max n a) n) (permuted_two v t (diagonal_max n a) n) (permuted_start n a)
