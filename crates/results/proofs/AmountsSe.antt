-- The amounts of SE90 and SE99: finite and not negative in every state of a run that no step refused.
use mathlib.Core.Path.{◌≡◌, refl, subst}
use mathlib.Core.Bool.{true, false}
use mathlib.Core.List.{List}
use Prim.Native.Nat.{ℕ, ◌-◌, ◌<◌}
use lib.ListN.{set}
use lib.Ieee.{Float, lt}
use Rattle.arithmetic.specs.Double.{plus_zero}
use Rattle.arithmetic.proofs.Maximum.{max-not_negative}
use Rattle.matrix.specs.Matrix.{at}
use Rattle.methods.specs.Marks.{mark, Mark}
use Rattle.methods.specs.Statements.{diagonal_max, pivot_matrix, reorder}
use Rattle.methods.specs.Se.{Run, start, pivot, factorize, amount, phase_two_step_at, pair_of, one_of, add_pair, add_one, add_last, last_pair, last_one, begin, run}
use Rattle.std.specs.Prelude.{None, Some}
use Rattle.methods.specs.declared.schnabel_eskow.Tolerances.{Tolerances}
use Rattle.methods.specs.declared.schnabel_eskow.Variant.{Variant}
use Rattle.methods.specs.declared.schnabel_eskow.Last.{Last}
use Rattle.methods.specs.declared.schnabel_eskow.Last.TheVariants.{One, Pair}
use Rattle.methods.proofs.SeRuns.{Leaves, KeptInPhaseOne, KeptInPhaseTwo, run-keeps}
use Rattle.methods.proofs.MarkLaws.{clash}
use Rattle.results.specs.Results.{Amounts}
use Rattle.results.proofs.SeTests.{factorize-never, begin-never, norm_at, amount_at, step-tested, one-tested, pair_tested}
use Rattle.results.proofs.AmountsLists.{zeros-amounts, set-amounts, reorder-amounts}
use Rattle.results.proofs.AmountsLast.{PositiveTolerances, one-not_negative}

-- what holds of e while the run is not refused
abbrev Kept : ℕ → Run → Type 0
Kept n s = s.progress.refused ≡ None → Amounts n s.e

-- ---- phase one stores no amount; where it is left at n - 1, a test passed there
module _ (v : Variant) (t : Tolerances) (gamma : Float) (n : ℕ) where
  abbrev Left : Mark → List Float → Type 0
  Left m l = m ≡ Some (n - 1) → Leaves v t gamma n (n - 1) l

  record First (s : Run) : Type 0 where
    amounts : Kept n s
    left : Left s.progress.phase2 s.l

  none_left : (m : Mark) (l : List Float) → m ≡ None → Left m l
  none_left m l e k = clash m (n - 1) e k

  left_at : (j : ℕ) (m : Mark) (l : List Float) → m ≡ None → Leaves v t gamma n j l → Left (mark m true j) l
  left_at j m l e w k = subst (λ (i : ℕ). Leaves v t gamma n i l) (let e' : mark m true j ≡ Some j = rw e in cc) w

  kept-one : KeptInPhaseOne v t gamma n First
  unfolding pivot factorize
  kept-one = record {
    by_leave = λ j s h m w F. record { amounts = F.amounts; left = left_at j s.progress.phase2 s.l m w };
    by_pivot = λ j k tie s h hk m F. record { amounts = F.amounts; left = none_left s.progress.phase2 _ m };
    by_factorize = λ j s h m F. record { amounts = λ r. F.amounts (factorize-never n j s r).before; left = none_left s.progress.phase2 _ m };
  }

  start_first : (a : List Float) → First (start n a)
  unfolding start
  start_first a = record { amounts = λ r. zeros-amounts n; left = none_left None a refl }

-- ---- amounts that begin as 0.0.max(..)
amount-not_negative : (v : Variant) (t : Tolerances) (gamma delta-prev ljj normj : Float) → lt (amount v t gamma delta-prev ljj normj) plus_zero ≡ false
unfolding amount
amount-not_negative v t gamma delta-prev ljj normj = max-not_negative delta-prev _

-- ---- phase two
begin-keeps : (n k : ℕ) (s : Run) → Kept n s → Kept n (begin n k s)
begin-keeps n k s K r = unfold begin in K (begin-never n k s r)

step_keeps : (v : Variant) (t : Tolerances) (gamma : Float) (n j k : ℕ) (s : Run) → Kept n s → Kept n (phase_two_step_at v t gamma n j k s)
unfolding phase_two_step_at
step_keeps v t gamma n j k s K r =
    let T = step-tested v t gamma n j k s r in
    set-amounts n s.e j (amount_at v t gamma n j k s) T.amount-finite (amount-not_negative v t gamma s.progress.delta_prev (at n (pivot_matrix n j k s.l) j j) (norm_at n j k s)) (K T.before)

-- what is added last is not negative
abbrev NotNegative : Last → Type 0
NotNegative (One ej) = lt ej plus_zero ≡ false
NotNegative (Pair x ea) = lt ea plus_zero ≡ false

last_keeps : (n : ℕ) (last : Last) (s : Run) → NotNegative last → Kept n s → Kept n (add_last n last s)
unfolding add_one add_pair
last_keeps n (One ej) s p K r =
    let T = one-tested n ej s r in
    set-amounts n s.e (n - 1) ej T.amount-finite p (K T.before)
last_keeps n (Pair x ea) s p K r =
    let T = pair_tested n x ea s r in
    set-amounts n (set s.e (n - 2) ea) (n - 1) ea T.amount-finite p (set-amounts n s.e (n - 2) ea T.amount-finite p (K T.before))

pair_not_negative : (v : Variant) (t : Tolerances) (gamma : Float) (n : ℕ) (l : List Float) (delta-prev : Float) → NotNegative (pair_of v t gamma n l delta-prev)
unfolding pair_of
pair_not_negative v t gamma n l delta-prev = max-not_negative _ delta-prev

-- ---- a whole run
one-not_below : (v : Variant) (t : Tolerances) → PositiveTolerances t → (n : ℕ) (a l : List Float) → 0 < n → Leaves v t (diagonal_max n a) n (n - 1) l
    → NotNegative (one_of v t (diagonal_max n a) (at n l (n - 1) (n - 1)))
unfolding one_of
one-not_below v t P n a l some w = one-not_negative t P n a l some v _ w

module _ (v : Variant) (t : Tolerances) (P : PositiveTolerances t) (numbers : List ℕ) (n : ℕ) (a : List Float) (some : 0 < n) where
  kept-two : KeptInPhaseTwo v t (diagonal_max n a) n (First v t (diagonal_max n a) n) (Kept n)
  unfolding last_pair last_one
  kept-two = record {
    after_one = λ s F. F.amounts;
    by_begin = λ k s h K. begin-keeps n k s K;
    by_step = λ j k s h hk K. step_keeps v t (diagonal_max n a) n j k s K;
    by_pair = λ s h K. last_keeps n (pair_of v t (diagonal_max n a) n s.l s.progress.delta_prev) s (pair_not_negative v t (diagonal_max n a) n s.l s.progress.delta_prev) K;
    by_one = λ s h m F. last_keeps n (one_of v t (diagonal_max n a) (at n s.l (n - 1) (n - 1))) s (one-not_below v t P n a s.l some (F.left m)) F.amounts;
  }

  -- before they are put in the order of the original rows
  run-amounts : (run v t numbers n a).progress.refused ≡ None → Amounts n (run v t numbers n a).e
  run-amounts = run-keeps v t numbers n a (First v t (diagonal_max n a) n) (Kept n) (kept-one v t (diagonal_max n a) n) kept-two (start_first v t (diagonal_max n a) n a)

  pub amounts-se : (run v t numbers n a).progress.refused ≡ None → Amounts n (reorder n (run v t numbers n a).p (run v t numbers n a).e)
  amounts-se r = reorder-amounts n (run v t numbers n a).p (run v t numbers n a).e (run-amounts r)
