-- Load order of two whole runs with contract numbers, the numbers moving with their contracts. Tied or not, two runs of GMW81 are alike
-- throughout; two of SE90 or SE99 have the same tied and phase-two step, and are alike throughout where no second phase begins.
-- Proved as `numbered` in proofs/Numbered.antt, for every n, every tau, tau_bar and mu.
use Rattle.std.specs.Prelude.{◌≡◌, List, ℕ, length, get_or, Float, None}
use Rattle.matrix.specs.Checks.{Distinct}
use Rattle.matrix.specs.Table.{table}
use Rattle.methods.specs.AcceptedMatrix.{AcceptedMatrix}
use Rattle.methods.specs.Reloading.{LoadOrder, reload}
use Rattle.methods.specs.Result.{Result}
use Rattle.methods.specs.Factor.{factor}
use Rattle.methods.specs.declared.method.Method.{Method}
use Rattle.methods.specs.declared.method.Method.TheVariants.{Gmw81, Se}
use Rattle.methods.specs.declared.schnabel_eskow.Tolerances.{Tolerances}
use Rattle.load_order.specs.LoadOrder.{AlikeThroughout}

-- number i is the first run's number s[i]
abbrev pub reload_numbers : ℕ → List ℕ → List ℕ → List ℕ
reload_numbers n s numbers = table n (λ i. get_or numbers (get_or s i 0) 0)

-- GMW81 has no second phase: nothing is asked of its runs
abbrev pub OnePhase : Method → Result → Type 0
OnePhase Gmw81 first = Unit
OnePhase (Se v) first = first.decomposition.phase2 ≡ None

-- whether a step is tied or not
pub record NumberedAlike (method : Method) (n : ℕ) (s : List ℕ) (first second : Result) : Type 0 where
  pub tied : first.decomposition.tied ≡ second.decomposition.tied
  pub phase2 : first.decomposition.phase2 ≡ second.decomposition.phase2
  pub throughout : OnePhase method first → AlikeThroughout n s first second

abbrev pub NumberedTheorem : Type 0
NumberedTheorem =
    (method : Method) (tolerances : Tolerances) (numbers : List ℕ) (n : ℕ) (a : List Float) (s : List ℕ)
    → length numbers ≡ n → Distinct numbers → AcceptedMatrix n a → LoadOrder n s
    → NumberedAlike method n s (factor method tolerances numbers n a) (factor method tolerances (reload_numbers n s numbers) n (reload n s a))
