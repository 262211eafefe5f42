-- What p[t] means, without contract numbers: a run on the matrix reloaded by its own p takes the rows as they come, tied or not. Proved as `own_order` in
-- proofs/OwnOrder.antt, for every n, every tau, tau_bar and mu.
use Rattle.std.specs.Prelude.{◌≡◌, List, [], ℕ, ◌<◌, get_or, Float, Ok, None}
use Rattle.std.specs.Float.{nan}
use Rattle.methods.specs.AcceptedMatrix.{AcceptedMatrix}
use Rattle.methods.specs.Reloading.{reload}
use Rattle.methods.specs.Result.{Result, identity}
use Rattle.methods.specs.Factor.{factor}
use Rattle.methods.specs.declared.method.Method.{Method}
use Rattle.methods.specs.declared.schnabel_eskow.Tolerances.{Tolerances}

-- what a run hands back, and the one on the matrix reloaded by its p
pub record OwnOrder (n : ℕ) (first second : Result) : Type 0 where
  -- the same outcome, tied step, phase-two step and count of inexact roots
  pub decomposition : second.decomposition ≡ first.decomposition
  pub factors : second.l ≡ first.l
  pub amounts : (t : ℕ) → t < n → get_or second.e t nan ≡ get_or first.e (get_or first.p t 0) nan
  -- 0 to n - 1
  pub pivots : second.p ≡ identity n

abbrev pub OwnOrderTheorem : Type 0
OwnOrderTheorem =
    (method : Method) (tolerances : Tolerances) (n : ℕ) (a : List Float)
    → AcceptedMatrix n a
    → let first = factor method tolerances [] n a in
    first.decomposition.outcome ≡ Ok tt → first.decomposition.phase2 ≡ None
    → OwnOrder n first (factor method tolerances [] n (reload n first.p a))
