use mathlib.Core.Path.{◌≡◌, sym, ap, ◌∙◌}
use mathlib.Core.List.{List}
use Prim.Native.Nat.{ℕ, ◌≤◌, ◌<◌}
use lib.Ieee.{Float}
use Rattle.methods.specs.Statements.{diagonal_max}
use Rattle.methods.specs.Elimination.{Symmetric, mirrored}
use Rattle.methods.specs.Se.{Run, state, lowered, start, phase_one, phase_two, run}
use Rattle.std.specs.Prelude.{Some}
use Rattle.methods.specs.declared.progress.Progress.{Progress}
use Rattle.methods.specs.declared.schnabel_eskow.Tolerances.{Tolerances}
use Rattle.methods.specs.declared.schnabel_eskow.Variant.{Variant}
use Rattle.matrix.specs.Matrix.{Square}
use Rattle.methods.proofs.Counts.{left-from_start}
use Rattle.methods.proofs.Mirrored.{mirrored-same}
use Rattle.methods.proofs.SeLaws.{square-same, run_is}
use Rattle.methods.proofs.SeRuns.{phase_one-below}
use Rattle.modcholesky.proofs.se.phases.Goals as goal

-- the matrix given is symmetric, so it is its own mirror
started : (n : ℕ) (a l e g : List Float) (p : List ℕ) (r : Progress) → Square n a → Symmetric n a → state l e g p r ≡ start n a → state (mirrored n l) e g p r ≡ start n a
unfolding start
started n a l e g p r h S k =
    let la : l ≡ a = ap (λ (s : Run). s.l) k in
    let ml : mirrored n l ≡ l = ap (mirrored n) la ∙ mirrored-same n a h.len S ∙ sym la in
    rw ml k

left_below : (v : Variant) (t : Tolerances) (numbers : List ℕ) (gamma : Float) (n : ℕ) (a : List Float) (s₁ s₂ : Run) → s₁ ≡ start n a → s₂ ≡ phase_one v t numbers gamma n s₁
    → (k : ℕ) → s₂.progress.phase2 ≡ Some k → (k < n) × (s₂.progress.inexact ≤ k)
left_below v t numbers gamma n a s₁ s₂ e₁ e₂ = rw (e₂, e₁) (λ k h. (phase_one-below v t numbers gamma n a k h, (left-from_start v t numbers gamma n a).left k h))

none_counted : (n : ℕ) (a l e g : List Float) (p : List ℕ) (r : Progress) → state l e g p r ≡ start n a → r.inexact ≡ 0
unfolding start
none_counted n a l e g p r h = ap (λ (s : Run). s.progress.inexact) h

pub phase_one-first-requires : goal.phase_one-first-requires
phase_one-first-requires c =
    let lengths = c.requires.e_len in record { square = square-same _ c.l-1.given c.requires.square_2; p_len = (c.p-1.given ∙ lengths.3, lengths.2, none_counted _ _ _ _ _ _ _ c.begin-started.ensures) }

pub phase_two-requires : goal.phase_two-requires
phase_two-requires c =
    let lengths = c.requires.e_len in record {
      square = square-same _ (c.l-2-1.given ∙ c.l-1.given) c.requires.square_2;
      e_len = (
        c.e-1.given ∙ lengths.0,
        c.g-1.given ∙ lengths.1,
        c.p-2-1.given ∙ c.p-1.given ∙ lengths.3,
      );
      by_index = left_below _ _ _ _ _ _ _ _ (started _ _ _ _ _ _ _ c.requires.square lengths.4 c.begin-started.ensures) (c.phase_one-first.ensures _ _);
    }

ran : (v : Variant) (t : Tolerances) (numbers : List ℕ) (n : ℕ) (a : List Float) (gamma : Float) (s₁ s₂ s₃ : Run) → gamma ≡ diagonal_max n a → s₁ ≡ start n a → s₂ ≡ phase_one v t numbers gamma n s₁
    → s₃ ≡ lowered n (phase_two v t numbers gamma n s₂) → s₃ ≡ lowered n (run v t numbers n a)
ran v t numbers n a gamma s₁ s₂ s₃ eg e₁ e₂ e₃ = rw (run_is, e₃, e₂, e₁, eg)

pub returns : goal.returns
returns c =
    ran _ _ _ _ _ _ _ _ _ c.diagonal_max.ensures (started _ _ _ _ _ _ _ c.requires.square c.requires.e_len.4 c.begin-started.ensures) (c.phase_one-first.ensures _ _) c.phase_two.ensures
