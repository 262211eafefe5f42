-- Load order of two solve calls (document 02, N3): the same L, at each pivot the same contract, the right side moving with its contracts.
-- Proved as `solved` and, of two whole results, as `alike-solved` in proofs/Solve.antt.
use Rattle.std.specs.Prelude.{◌≡◌, true, List, ℕ, ◌<◌, length, get_or, Float, Ok}
use Rattle.std.specs.Float.{nan}
use Rattle.arithmetic.specs.Outcome.{complete, number, Outcome}
use Rattle.matrix.specs.Table.{table}
use Rattle.methods.specs.Reloading.{LoadOrder}
use Rattle.methods.specs.Result.{Result}
use Rattle.solve.specs.Substitution.{SolveCall, solve_checks, solve_call}
use Rattle.load_order.specs.LoadOrder.{AlikeThroughout}

-- component i is the first right side's component s[i]
abbrev pub reload_right : ℕ → List ℕ → List Float → List Float
reload_right n s b = table n (λ i. get_or b (get_or s i 0) nan)

-- p' lists rows of the matrix reloaded by s: at each pivot the contract of p
pub record SamePivots (n : ℕ) (s p p' : List ℕ) : Type 0 where
  pub len : length p' ≡ n
  pub below : (t : ℕ) → t < n → get_or p' t 0 < n
  pub contracts : (t : ℕ) → t < n → get_or p t 0 ≡ get_or s (get_or p' t 0) 0

pub record SolvedAlike (n : ℕ) (s : List ℕ) (checks : Outcome) (first second : SolveCall) : Type 0 where
  -- of every refusal; the place of a component of b that isn't finite moves with its contract
  pub refusal : number first.outcome ≡ number second.outcome
  -- where the checks pass, 9's row too
  pub outcome : complete checks ≡ true → first.outcome ≡ second.outcome
  pub components : complete checks ≡ true → (i : ℕ) → i < n → get_or second.y i nan ≡ get_or first.y (get_or s i 0) nan

abbrev pub SolvedTheorem : Type 0
SolvedTheorem =
    (n : ℕ) (l : List Float) (s p p' : List ℕ) (b y y' : List Float)
    → LoadOrder n s → LoadOrder n p → SamePivots n s p p' → length b ≡ n → length y ≡ n → length y' ≡ n
    → SolvedAlike n s (solve_checks n l (length y) p b) (solve_call n l p b y) (solve_call n l p' (reload_right n s b) y')

-- two complete results that are alike throughout, each with a p that lists every row once
abbrev pub AlikeSolvedTheorem : Type 0
AlikeSolvedTheorem =
    (n : ℕ) (s : List ℕ) (first second : Result) (b y y' : List Float)
    → LoadOrder n s → LoadOrder n first.p → LoadOrder n second.p → length b ≡ n → length y ≡ n → length y' ≡ n
    → AlikeThroughout n s first second → first.decomposition.outcome ≡ Ok tt
    → SolvedAlike n s (solve_checks n first.l (length y) first.p b) (solve_call n first.l first.p b y) (solve_call n second.l second.p (reload_right n s b) y')
