-- Document 01's section 'Load order': one statement about two whole runs of the same method, the first on a matrix, the second on its
-- reloading, both without contract numbers. It is proved as `load_order` in proofs/Theorem.antt, for every n, every tau, tau_bar and mu.
use Rattle.std.specs.Prelude.{◌≡◌, List, [], ℕ, ◌<◌, get_or, Float, Ok, None}
use Rattle.std.specs.Float.{nan}
use Rattle.methods.specs.AcceptedMatrix.{AcceptedMatrix}
use Rattle.methods.specs.Reloading.{LoadOrder, reload}
use Rattle.methods.specs.Result.{Result}
use Rattle.methods.specs.Factor.{factor}
use Rattle.methods.specs.declared.method.Method.{Method}
use Rattle.methods.specs.declared.schnabel_eskow.Tolerances.{Tolerances}

-- what is alike of two whole results
pub record AlikeThroughout (n : ℕ) (s : List ℕ) (first second : Result) : Type 0 where
  pub outcome : first.decomposition.outcome ≡ second.decomposition.outcome
  pub inexact : first.decomposition.inexact ≡ second.decomposition.inexact
  pub factors : first.l ≡ second.l
  pub amounts : (i : ℕ) → i < n → get_or second.e i nan ≡ get_or first.e (get_or s i 0) nan
  pub pivots : first.decomposition.outcome ≡ Ok tt → (t : ℕ) → t < n → get_or first.p t 0 ≡ get_or s (get_or second.p t 0) 0

-- throughout where no step is tied and no second phase begins
pub record Alike (n : ℕ) (s : List ℕ) (first second : Result) : Type 0 where
  pub tied : first.decomposition.tied ≡ second.decomposition.tied
  pub phase2 : first.decomposition.tied ≡ None → first.decomposition.phase2 ≡ second.decomposition.phase2
  pub throughout : first.decomposition.tied ≡ None → first.decomposition.phase2 ≡ None → AlikeThroughout n s first second

abbrev pub LoadOrderTheorem : Type 0
LoadOrderTheorem =
    (method : Method) (tolerances : Tolerances) (n : ℕ) (a : List Float) (s : List ℕ)
    → AcceptedMatrix n a → LoadOrder n s
    → Alike n s (factor method tolerances [] n a) (factor method tolerances [] n (reload n s a))
