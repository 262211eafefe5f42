-- A run that has stopped stays as it is; one that has not was neither left nor refused.
use mathlib.Core.Path.{◌≡◌}
use mathlib.Core.Bool.{true, false, cond}
use mathlib.Core.List.{List}
use Prim.Native.Nat.{ℕ}
use lib.Ieee.{Float}
use Rattle.arithmetic.proofs.OrderLaws.{or_1, or_2}
use Rattle.methods.specs.Marks.{marked}
use Rattle.methods.specs.Progress.{stopped}
use Rattle.methods.specs.Se.{Run, phase_one_step, in_phase_one}
use Rattle.std.specs.Prelude.{None}
use Rattle.methods.specs.declared.progress.Progress.{Progress}
use Rattle.methods.specs.declared.schnabel_eskow.Tolerances.{Tolerances}
use Rattle.methods.specs.declared.schnabel_eskow.Variant.{Variant}
use Rattle.methods.proofs.Refused.{unmarked_never}

pub record Going (r : Progress) : Type 0 where
  pub phase2 : r.phase2 ≡ None
  pub refused : r.refused ≡ None

pub going : (r : Progress) → stopped r ≡ false → Going r
going r h = record {
  phase2 = unmarked_never r.phase2 (or_1 (marked r.phase2) (marked r.refused) h);
  refused = unmarked_never r.refused (or_2 (marked r.phase2) (marked r.refused) h);
}

-- ---- a step that a method makes until it has stopped
abbrev pub unless_stopped : {S : Type 0} → (S → Progress) → (S → S) → S → S
unless_stopped progress next s = cond (stopped (progress s)) s (next s)

module _ {S : Type 0} (progress : S → Progress) (next : S → S) (s : S) where
  pub stays : stopped (progress s) ≡ true → unless_stopped progress next s ≡ s
  stays h = rw h

  pub goes : stopped (progress s) ≡ false → unless_stopped progress next s ≡ next s
  goes h = rw h

-- .. phase one of SE90 and SE99
module _ (v : Variant) (t : Tolerances) (numbers : List ℕ) (gamma : Float) (n j : ℕ) (s : Run) where
  pub phase_one_stays : stopped s.progress ≡ true → in_phase_one v t numbers gamma n j s ≡ s
  unfolding in_phase_one
  phase_one_stays h = stays (λ r. r.progress) (phase_one_step v t numbers gamma n j) s h

  pub phase_one_goes : stopped s.progress ≡ false → in_phase_one v t numbers gamma n j s ≡ phase_one_step v t numbers gamma n j s
  unfolding in_phase_one
  phase_one_goes h = goes (λ r. r.progress) (phase_one_step v t numbers gamma n j) s h
