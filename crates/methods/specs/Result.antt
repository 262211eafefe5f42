-- What a run hands back: document 01's result, with the fillings of refusal 9.
use Rattle.std.specs.Prelude.{List, ℕ, ◌*◌, Float, None, Some, Ok, Err}
use Rattle.arithmetic.specs.Outcome.{Outcome}
use Rattle.arithmetic.specs.declared.refusal.Refusal.TheVariants.{StoredNotFinite}
use Rattle.matrix.specs.Matrix.{zeros}
use Rattle.matrix.specs.Table.{table}
use Rattle.methods.specs.declared.decomposition.Decomposition.{Decomposition}
use Rattle.methods.specs.declared.progress.Progress.{Progress}
use Rattle.methods.specs.Marks.{Mark}

pub record Result : Type 0 where
  pub decomposition : Decomposition
  pub l : List Float
  pub e : List Float
  pub p : List ℕ

-- 0 to n - 1
abbrev pub identity : ℕ → List ℕ
identity n = table n (λ i. i)

abbrev pub outcome_of : Mark → Outcome
outcome_of None = Ok tt
outcome_of (Some j) = Err (StoredNotFinite j)

-- a complete run's values, or refusal 9's fillings: +0.0 over L and e, 0 to n - 1 in p
abbrev pub filled : Mark → ℕ → List Float → List Float
filled None size values = values
filled (Some j) size values = zeros size

abbrev pub filled_order : Mark → ℕ → List ℕ → List ℕ
filled_order None n p = p
filled_order (Some j) n p = identity n

-- .. and 0 for the count of inexact roots
abbrev pub filled_count : Mark → ℕ → ℕ
filled_count None inexact = inexact
filled_count (Some j) inexact = 0

-- what is reported of a run's progress
abbrev pub reported : Progress → Decomposition
reported r = record { outcome = outcome_of r.refused; tied = r.tied; phase2 = r.phase2; inexact = filled_count r.refused r.inexact }

abbrev pub hand_back : ℕ → Progress → List Float → List Float → List ℕ → Result
hand_back n r l e p = record {
  decomposition = reported r;
  l = filled r.refused (n * n) l;
  e = filled r.refused n e;
  p = filled_order r.refused n p;
}
