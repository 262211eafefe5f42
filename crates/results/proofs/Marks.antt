-- The marks that are handed back are steps, in every run: each change of a run's progress keeps them so, and GMW81's scaling counts as step n.
use mathlib.Core.Path.{◌≡◌}
use mathlib.Core.Bool.{Bool, true, not}
use mathlib.Core.List.{List}
use Prim.Native.Nat.{ℕ, ◌+◌, ◌-◌, ◌≤◌, ◌<◌}
use native.Mathlib.Omega.{arith}
use lib.Ieee.{Float}
use Rattle.arithmetic.specs.declared.refusal.Refusal.TheVariants.{StoredNotFinite}
use Rattle.arithmetic.proofs.Cases.{Is, is, holds, fails}
use Rattle.methods.specs.Marks.{mark, marked, Mark}
use Rattle.methods.specs.Progress.{begun}
use Rattle.methods.specs.Result.{outcome_of, reported}
use Rattle.methods.specs.Statements.{diagonal_max}
use Rattle.methods.specs.Gmw81 as gmw
use Rattle.methods.specs.Se as se
use Rattle.std.specs.Prelude.{None, Some, Err}
use Rattle.methods.specs.declared.progress.Progress.{Progress}
use Rattle.methods.specs.declared.schnabel_eskow.Tolerances.{Tolerances}
use Rattle.methods.specs.declared.schnabel_eskow.Variant.{Variant}
use Rattle.methods.proofs.GmwLaws.{started_is, step-at_is, finish-stays, finish-goes}
use Rattle.methods.proofs.GmwRuns.{KeptBySteps, steps_keep, run_is}
use Rattle.methods.proofs.SeLaws.{Below, never_below, mark-below}
use Rattle.methods.proofs.SeRuns.{KeptInPhaseOne, KeptInPhaseTwo, run-keeps}
use Rattle.results.specs.Results.{MarksBelow}

pub record ThreeBelow (n : ℕ) (tied phase2 refused : Mark) : Type 0 where
  pub tied_below : Below n tied
  pub phase2_below : Below n phase2
  pub refused_below : Below (n + 1) refused

abbrev pub ProgressBelow : ℕ → Progress → Type 0
ProgressBelow n r = ThreeBelow n r.tied r.phase2 r.refused

begun-below : (n : ℕ) → ProgressBelow n begun
begun-below n = record { tied_below = never_below n; phase2_below = never_below n; refused_below = never_below (n + 1) }

-- each mark of step j, b being its test
module _ (n j : ℕ) (b : Bool) {tied phase2 refused : Mark} (S : ThreeBelow n tied phase2 refused) where
  searched-below : j < n → ThreeBelow n (mark tied b j) phase2 refused
  searched-below h = record { tied_below = mark-below n j tied b h S.tied_below; phase2_below = S.phase2_below; refused_below = S.refused_below }

  left_below : j < n → ThreeBelow n tied (mark phase2 b j) refused
  left_below h = record { tied_below = S.tied_below; phase2_below = mark-below n j phase2 b h S.phase2_below; refused_below = S.refused_below }

  stored-below : j ≤ n → ThreeBelow n tied phase2 (mark refused b j)
  stored-below h = record { tied_below = S.tied_below; phase2_below = S.phase2_below; refused_below = mark-below (n + 1) j refused b (omega arith) S.refused_below }

-- ---- what is handed back
outcome-step : (m : Mark) (j : ℕ) → outcome_of m ≡ Err (StoredNotFinite j) → m ≡ Some j
outcome-step None j e = cc
outcome-step (Some k) j e = cc

pub reported-marks : (n : ℕ) (r : Progress) → ProgressBelow n r → MarksBelow n (reported r)
reported-marks n r S = record { tied_below = S.tied_below; phase2_below = S.phase2_below; refused_below = λ j e. omega (arith, S.refused_below j (outcome-step r.refused j e)) }

-- ---- GMW81
kept : (n : ℕ) (delta beta : Float) → KeptBySteps n delta beta (λ j s. ProgressBelow n s.progress)
kept n delta beta = record {
  by_step = λ j k tie s h hk S. rw step-at_is (stored-below n j _ (searched-below n j tie S h) (omega arith));
  refused = λ j s h S. S;
}

finish-below : (n : ℕ) (s : gmw.Run) → ProgressBelow n s.progress → ProgressBelow n (gmw.finish n s).progress
finish-below n s S = go (is (marked s.progress.refused))
  where
    go : Is (marked s.progress.refused) → ProgressBelow n (gmw.finish n s).progress
    go (holds h) = rw (finish-stays n s h) S
    go (fails h) = rw (finish-goes n s h) (stored-below n n (not (gmw.scaled_finite n (gmw.dout_of n s.d) _)) S (omega arith))

pub below-gmw81 : (numbers : List ℕ) (n : ℕ) (a : List Float) → ProgressBelow n (gmw.run numbers n a).progress
below-gmw81 numbers n a = rw run_is (finish-below n (gmw.stepped numbers n a) (steps_keep numbers n _ _ (λ j s. ProgressBelow n s.progress) (kept n _ _) a (rw started_is (begun-below n))))

-- ---- SE90 and SE99
abbrev RunBelow : ℕ → se.Run → Type 0
RunBelow n s = ProgressBelow n s.progress

kept-one : (v : Variant) (t : Tolerances) (gamma : Float) (n : ℕ) → KeptInPhaseOne v t gamma n (RunBelow n)
unfolding se.pivot se.factorize
kept-one v t gamma n = record {
  by_leave = λ j s h m w S. left_below n j true S h;
  by_pivot = λ j k tie s h hk m S. searched-below n j tie S h;
  by_factorize = λ j s h m S. stored-below n j _ S (omega arith);
}

kept-two : (v : Variant) (t : Tolerances) (gamma : Float) (n : ℕ) → KeptInPhaseTwo v t gamma n (RunBelow n) (RunBelow n)
unfolding se.begin se.phase_two_step_at se.last_pair se.last_one se.pair_of se.one_of se.add_pair se.add_one
kept-two v t gamma n = record {
  after_one = λ s S. S;
  by_begin = λ k s h S. stored-below n k _ S (omega arith);
  by_step = λ j k s h hk S. stored-below n j _ S (omega arith);
  by_pair = λ s h S. stored-below n (n - 2) _ S (omega arith);
  by_one = λ s h m S. stored-below n (n - 1) _ S (omega arith);
}

start-below : (n : ℕ) (a : List Float) → RunBelow n (se.start n a)
unfolding se.start
start-below n a = begun-below n

pub below-se : (v : Variant) (t : Tolerances) (numbers : List ℕ) (n : ℕ) (a : List Float) → ProgressBelow n (se.run v t numbers n a).progress
below-se v t numbers n a = run-keeps v t numbers n a (RunBelow n) (RunBelow n) (kept-one v t (diagonal_max n a) n) (kept-two v t (diagonal_max n a) n) (start-below n a)
