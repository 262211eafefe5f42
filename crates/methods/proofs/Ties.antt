-- A step marks its tie by its search alone: document 01's tied step. SE99's first test makes no search, and phase two reports no tie.
use mathlib.Core.Path.{◌≡◌}
use mathlib.Core.Bool.{true, false}
use mathlib.Core.List.{List}
use Prim.Native.Nat.{ℕ}
use lib.Ieee.{Float}
use Rattle.arithmetic.proofs.Cases.{Is, is, holds, fails}
use Rattle.methods.specs.Marks.{mark, marked}
use Rattle.methods.specs.Progress.{stopped}
use Rattle.methods.specs.Statements.{diagonal, pick, pivot_matrix}
use Rattle.methods.specs.Gmw81 as gmw
use Rattle.methods.specs.Se as se
use Rattle.methods.specs.declared.schnabel_eskow.Tolerances.{Tolerances}
use Rattle.methods.specs.declared.schnabel_eskow.Variant.{Variant}

pub gmw81-tie : (numbers : List ℕ) (n : ℕ) (delta beta : Float) (j : ℕ) (s : gmw.Run) → stopped s.progress ≡ false
    → (gmw.step numbers n delta beta j s).progress.tied ≡ mark s.progress.tied (pick numbers s.p true (diagonal n s.c) j).tied j
unfolding gmw.step gmw.step_at
gmw81-tie numbers n delta beta j s e = rw e

pub se_tie : (v : Variant) (t : Tolerances) (numbers : List ℕ) (gamma : Float) (n j : ℕ) (s : se.Run) → se.leaves_before v t gamma n j s.l ≡ false
    → (se.phase_one_step v t numbers gamma n j s).progress.tied ≡ mark s.progress.tied (pick numbers s.p false (diagonal n s.l) j).tied j
unfolding se.phase_one_step se.step_at se.pivot se.factorize
se_tie v t numbers gamma n j s e = go (is (se.leaves_after v t gamma n j (pivot_matrix n j (pick numbers s.p false (diagonal n s.l) j).index s.l)))
  where
    go : Is (se.leaves_after v t gamma n j (pivot_matrix n j (pick numbers s.p false (diagonal n s.l) j).index s.l))
        → (se.phase_one_step v t numbers gamma n j s).progress.tied ≡ mark s.progress.tied (pick numbers s.p false (diagonal n s.l) j).tied j
    go (holds p) = rw (e, p)
    go (fails p) = rw (e, p)

pub se_no_search : (v : Variant) (t : Tolerances) (numbers : List ℕ) (gamma : Float) (n j : ℕ) (s : se.Run) → se.leaves_before v t gamma n j s.l ≡ true
    → (se.phase_one_step v t numbers gamma n j s).progress.tied ≡ s.progress.tied
unfolding se.phase_one_step
se_no_search v t numbers gamma n j s e = rw e

pub phase_two_no_tie : (v : Variant) (t : Tolerances) (numbers : List ℕ) (gamma : Float) (n j : ℕ) (s : se.Run) → (se.phase_two_step v t numbers gamma n j s).progress.tied ≡ s.progress.tied
unfolding se.phase_two_step se.phase_two_step_at
phase_two_no_tie v t numbers gamma n j s = go (is (marked s.progress.refused))
  where
    go : Is (marked s.progress.refused) → (se.phase_two_step v t numbers gamma n j s).progress.tied ≡ s.progress.tied
    go (holds p) = rw p
    go (fails p) = rw p
