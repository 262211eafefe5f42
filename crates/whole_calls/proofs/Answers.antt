-- What answer records hold of two results that are alike is alike.
use mathlib.Core.Path.{◌≡◌, refl, sym, ap, ◌∙◌}
use mathlib.Core.Bool.{true≢false}
use mathlib.Core.List.{List}
use Prim.Native.Nat.{ℕ}
use Rattle.arithmetic.specs.Outcome.{complete}
use Rattle.arithmetic.proofs.Cases.{Is, is, holds, fails}
use Rattle.methods.specs.Result.{Result}
use Rattle.methods.specs.declared.decomposition.Decomposition.{Decomposition}
use Rattle.methods.specs.declared.method.Method.{Method}
use Rattle.methods.specs.declared.method.Method.TheVariants.{Gmw81, Se}
use Rattle.load_order.specs.LoadOrder.{AlikeThroughout, Alike}
use Rattle.load_order.specs.Numbered.{OnePhase, NumberedAlike}
use Rattle.whole_calls.specs.ReadBackTheorem.{shown}

pub kept : (r : Result) → (shown r).decomposition ≡ r.decomposition
kept r = elim (is (complete r.decomposition.outcome)) [ holds e ↦ rw e | fails e ↦ rw e ]

module _ (n : ℕ) (s : List ℕ) (A B : Result) where
  shown-throughout : AlikeThroughout n s A B → AlikeThroughout n s (shown A) (shown B)
  shown-throughout T = go (is (complete A.decomposition.outcome))
    where
      second : complete B.decomposition.outcome ≡ complete A.decomposition.outcome
      second = ap complete (sym T.outcome)

      go : Is (complete A.decomposition.outcome) → AlikeThroughout n s (shown A) (shown B)
      go (holds e) = rw (e, second ∙ e) T
      go (fails e) = rw (e, second ∙ e) (record { outcome = T.outcome; inexact = T.inexact; factors = refl; amounts = λ i h. refl; pivots = λ c. absurd (true≢false (sym (ap complete c) ∙ e)) })

  shown-tied : A.decomposition.tied ≡ B.decomposition.tied → (shown A).decomposition.tied ≡ (shown B).decomposition.tied
  shown-tied e = ap (λ (d : Decomposition). d.tied) (kept A) ∙ e ∙ sym (ap (λ (d : Decomposition). d.tied) (kept B))

  shown-phase2 : A.decomposition.phase2 ≡ B.decomposition.phase2 → (shown A).decomposition.phase2 ≡ (shown B).decomposition.phase2
  shown-phase2 e = ap (λ (d : Decomposition). d.phase2) (kept A) ∙ e ∙ sym (ap (λ (d : Decomposition). d.phase2) (kept B))

  pub shown-alike : Alike n s A B → Alike n s (shown A) (shown B)
  shown-alike L =
      let tied : (shown A).decomposition.tied ≡ A.decomposition.tied = ap (λ (d : Decomposition). d.tied) (kept A) in
      let phase2 : (shown A).decomposition.phase2 ≡ A.decomposition.phase2 = ap (λ (d : Decomposition). d.phase2) (kept A) in
      record {
        tied = shown-tied L.tied;
        phase2 = λ h. shown-phase2 (L.phase2 (sym tied ∙ h));
        throughout = λ h k. shown-throughout (L.throughout (sym tied ∙ h) (sym phase2 ∙ k));
      }

  -- .. with contract numbers
  shown-phase : (method : Method) → OnePhase method (shown A) → OnePhase method A
  shown-phase Gmw81 o = o
  shown-phase (Se v) o = sym (ap (λ (d : Decomposition). d.phase2) (kept A)) ∙ o

  pub shown-numbered : (method : Method) → NumberedAlike method n s A B → NumberedAlike method n s (shown A) (shown B)
  shown-numbered method L = record { tied = shown-tied L.tied; phase2 = shown-phase2 L.phase2; throughout = λ o. shown-throughout (L.throughout (shown-phase method o)) }
