-- How two runs end, and that what is handed back is then alike: one argument for the three methods.
use mathlib.Core.Path.{◌≡◌, refl, sym, ap, ◌∙◌}
use mathlib.Core.List.{List}
use Prim.Native.Nat.{ℕ, ◌<◌}
use lib.ListN.{get_or, get_or-replicate}
use lib.Ieee.{Float, nan}
use Rattle.arithmetic.specs.Double.{plus_zero}
use Rattle.std.specs.Prelude.{None, Some, Ok, Err}
use Rattle.arithmetic.specs.declared.refusal.Refusal.TheVariants.{StoredNotFinite}
use Rattle.arithmetic.specs.Outcome.{Outcome}
use Rattle.methods.specs.Reloading.{LoadOrder}
use Rattle.methods.specs.Result.{Result, hand_back}
use Rattle.methods.specs.Marks.{Mark}
use Rattle.methods.specs.declared.progress.Progress.{Progress}
use Rattle.methods.proofs.LoadOrders.{order}
use Rattle.methods.proofs.MarkLaws.{clash}
use Rattle.methods.proofs.Stopped.{Going}
use Rattle.load_order.specs.LoadOrder.{AlikeThroughout, Alike}
use Rattle.load_order.proofs.Lockstep.{Steps, InStep, Together, going_together, Runs, together, apart}

-- a run's values at its end, before refusal 9's fillings
pub record End : Type 0 where
  pub progress : Progress
  pub l : List Float
  pub e : List Float
  pub p : List ℕ

abbrev pub handed : ℕ → End → Result
handed n r = hand_back n r.progress r.l r.e r.p

-- what is alike of two complete runs; s is the load order
pub record Completed (n : ℕ) (s : List ℕ) (A B : End) : Type 0 where
  pub factors : A.l ≡ B.l
  pub amounts : (i : ℕ) → i < n → get_or B.e i nan ≡ get_or A.e (get_or s i 0) nan
  pub pivots : (t : ℕ) → t < n → get_or A.p t 0 ≡ get_or s (get_or B.p t 0) 0

pub record BothAlike (n : ℕ) (s : List ℕ) (A B : End) : Type 0 where
  pub same : A.progress ≡ B.progress
  pub completed : A.progress.refused ≡ None → Completed n s A B

-- May: whether ties may part the runs
pub data Ended (May : Type 0) (n : ℕ) (s : List ℕ) (A B : End) : Type 0 where
  both_tied : May → (t : ℕ) → A.progress.tied ≡ Some t → B.progress.tied ≡ Some t → Ended May n s A B
  both_left : (t : ℕ) → A.progress.tied ≡ B.progress.tied → A.progress.phase2 ≡ Some t → B.progress.phase2 ≡ Some t → Ended May n s A B
  both_alike : BothAlike n s A B → Ended May n s A B

-- ---- what is handed back
-- a refused run isn't complete
pub refused-not_complete : (t : ℕ) → ◌≡◌ {A = Outcome} (Err (StoredNotFinite t)) (Ok tt) → ⊥
refused-not_complete t e = cc

-- what is alike where no tie parts the runs
pub record Joined (n : ℕ) (s : List ℕ) (first second : Result) : Type 0 where
  pub tied : first.decomposition.tied ≡ second.decomposition.tied
  pub phase2 : first.decomposition.phase2 ≡ second.decomposition.phase2
  pub throughout : first.decomposition.phase2 ≡ None → AlikeThroughout n s first second

module _ (n : ℕ) (s : List ℕ) (A B : End) (L : LoadOrder n s) where
  throughout : (m : Mark) → A.progress.refused ≡ m → B.progress.refused ≡ m → A.progress.inexact ≡ B.progress.inexact → (A.progress.refused ≡ None → Completed n s A B) → AlikeThroughout n s (handed n A) (handed n B)
  throughout None p q k c = rw (p, q) (record { outcome = refl; inexact = k; factors = (c p).factors; amounts = (c p).amounts; pivots = λ h. (c p).pivots })
  throughout (Some t) p q k c = rw (p, q) (record {
    outcome = refl;
    inexact = refl;
    factors = refl;
    amounts = λ i h. get_or-replicate n i plus_zero nan h ∙ sym (get_or-replicate n (get_or s i 0) plus_zero nan (L.below i h));
    pivots = λ e k h. cc;
  })

  -- no tie parts the runs
  pub ended_joined : Ended ⊥ n s A B → Joined n s (handed n A) (handed n B)
  ended_joined (both_tied m t p q) = absurd m
  ended_joined (both_left t e p q) = record { tied = e; phase2 = p ∙ sym q; throughout = λ k. clash A.progress.phase2 t k p }
  ended_joined (both_alike C) = record {
    tied = ap (λ (r : Progress). r.tied) C.same;
    phase2 = ap (λ (r : Progress). r.phase2) C.same;
    throughout = λ k. throughout A.progress.refused refl (sym (ap (λ (r : Progress). r.refused) C.same)) (ap (λ (r : Progress). r.inexact) C.same) C.completed;
  }

  untied : Joined n s (handed n A) (handed n B) → Alike n s (handed n A) (handed n B)
  untied J = record { tied = J.tied; phase2 = λ h. J.phase2; throughout = λ h. J.throughout }

  -- ties may part them
  pub ended_alike : Ended Unit n s A B → Alike n s (handed n A) (handed n B)
  ended_alike (both_tied m t p q) = record { tied = p ∙ sym q; phase2 = λ h. clash A.progress.tied t h p; throughout = λ h. clash A.progress.tied t h p }
  ended_alike (both_left t e p q) = untied (ended_joined (both_left t e p q))
  ended_alike (both_alike C) = untied (ended_joined (both_alike C))

-- ---- from the end of the steps to the end of the run
-- what the end of a run keeps of its progress
pub record ProgressKept (r : Progress) (end : End) : Type 0 where
  pub tied : end.progress.tied ≡ r.tied
  pub phase2 : end.progress.phase2 ≡ r.phase2
  pub refused : (t : ℕ) → r.refused ≡ Some t → r.phase2 ≡ None → end.progress ≡ r

module _ {Run : Type 0} (M : Steps Run) (n : ℕ) (s : List ℕ) (Values : (ℕ → ℕ) → ℕ → Run → Run → Type 0) (May : Type 0) (A B : Run) (A' B' : End)
    (F : ProgressKept (M.progress A) A') (G : ProgressKept (M.progress B) B') (complete : InStep M n (order s) Values n A B → M.progress A ≡ M.progress B → Going (M.progress A) → BothAlike n s A' B') where
  pub runs_end : Runs M n (order s) Values May n A B → Ended May n s A' B'
  runs_end (apart m t p q) = both_tied m t (F.tied ∙ p) (G.tied ∙ q)
  runs_end (together T) = go (M.progress A).phase2 refl (M.progress A).refused refl
    where
      go : (m : Mark) → (M.progress A).phase2 ≡ m → (q : Mark) → (M.progress A).refused ≡ q → Ended May n s A' B'
      go (Some t) p q e = both_left t
          (F.tied ∙ ap (λ (r : Progress). r.tied) T.same ∙ sym G.tied)
          (F.phase2 ∙ p) (G.phase2 ∙ sym (ap (λ (r : Progress). r.phase2) T.same) ∙ p)
      go None p (Some t) e =
          let same : A'.progress ≡ B'.progress =
          F.refused t e p ∙ T.same ∙ sym (G.refused t (sym (ap (λ (r : Progress). r.refused) T.same) ∙ e) (sym (ap (λ (r : Progress). r.phase2) T.same) ∙ p)) in
          both_alike (record { same = same; completed = λ h. clash A'.progress.refused t h (ap (λ (r : Progress). r.refused) (F.refused t e p) ∙ e) })
      go None p None e = both_alike (complete (rw p at (T.in_step e)) T.same (record { phase2 = p; refused = e }))

  -- .. where it is complete and has no second phase
  pub together_end : Together M n (order s) Values n A B → A'.progress.phase2 ≡ None → A'.progress.refused ≡ None → BothAlike n s A' B'
  together_end T p q = complete (going_together M n (order s) Values n A B G₁ T) T.same G₁
    where
      phase2 : (M.progress A).phase2 ≡ None
      phase2 = sym F.phase2 ∙ p

      refused : (m : Mark) → (M.progress A).refused ≡ m → (M.progress A).refused ≡ None
      refused None e = e
      refused (Some t) e = clash A'.progress.refused t q (ap (λ (r : Progress). r.refused) (F.refused t e phase2) ∙ e)

      G₁ : Going (M.progress A)
      G₁ = record { phase2 = phase2; refused = refused (M.progress A).refused refl }
