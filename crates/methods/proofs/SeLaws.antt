-- What the code of SE90 and SE99 leaves in its variables, each value named.
use mathlib.Core.Path.{◌≡◌, refl, ap, ◌∙◌}
use mathlib.Core.Bool.{Bool, true, false, cond, ◌&&◌}
use mathlib.Core.List.{List}
use Prim.Native.Nat.{ℕ, ◌-◌, ◌<◌}
use native.Mathlib.Omega.{arith}
use lib.ListN.{length}
use lib.Dec.{eqb}
use lib.Ieee.{Float, inf, of_bits, div, neg}
use Rattle.arithmetic.specs.Double.{plus_zero, one, ◌⊘◌}
use Rattle.arithmetic.specs.Loop.{range}
use Rattle.matrix.specs.Matrix.{Square, at, put}
use Rattle.matrix.proofs.EntryLaws.{put_entries, at_put_same}
use Rattle.methods.specs.Marks.{mark, marked, Mark}
use Rattle.methods.specs.Progress.{stopped}
use Rattle.methods.specs.Statements.{diagonal, diagonal_max, pick, pivot_matrix}
use Rattle.methods.specs.Se.{Run, start, leaves_before, leaves_after, leave, pivot, factorize, step_at, phase_one_step, in_phase_one, phase_one, phase_two_step_at, phase_two_step, pair_of, one_of, add_last, rows_of, last_pair, last_one, begin, pairs, phase_two_from, phase_two_after, phase_two, run}
use Rattle.std.specs.Prelude.{None, Some}
use Rattle.methods.specs.declared.schnabel_eskow.Tolerances.{Tolerances}
use Rattle.methods.specs.declared.schnabel_eskow.Variant.{Variant}
use Rattle.methods.specs.declared.schnabel_eskow.Last.{Last}

-- ---- a test's arms
pub cond_true : {A : Type 0} {b : Bool} (x y : A) → b ≡ true → x ≡ cond b x y
cond_true x y e = rw e

pub cond_false : {A : Type 0} {b : Bool} (x y : A) → b ≡ false → y ≡ cond b x y
cond_false x y e = rw e

pub cond_keeps : {A : Type 0} (P : A → Type 0) (b : Bool) (x y : A) → P x → P y → P (cond b x y)
cond_keeps P true x y px py = px
cond_keeps P false x y px py = py

pub and_three : (a b c d : Bool) → (a && (b && c && d)) ≡ (a && b && c && d)
and_three true b c d = refl
and_three false b c d = refl

-- ---- infinities
pub infinity_is : one ⊘ plus_zero ≡ inf false
unfolding of_bits div
infinity_is = refl

pub minus-infinity_is : neg one ⊘ plus_zero ≡ inf true
unfolding of_bits div neg
minus-infinity_is = refl

-- ---- a store keeps the rows, and is read back
pub square-same : {n : ℕ} {m : List Float} (m' : List Float) → length m' ≡ length m → Square n m → Square n m'
square-same m' e s = record { len = e ∙ s.len; small = s.small }

pub square-put : {n : ℕ} {m m' : List Float} (i j : ℕ) (v : Float) → m' ≡ put n m i j v → Square n m → Square n m'
square-put {n} {m} i j v e s = record { len = ap length e ∙ put_entries n m i j v s.len; small = s.small }

pub at_stored : {n : ℕ} {m m' : List Float} (i j : ℕ) (v : Float) → m' ≡ put n m i j v → Square n m → i < n → j < n → at n m' i j ≡ v
at_stored {n} {m} i j v e s p q = rw e (at_put_same n m i j v s.len p q)

-- ---- the run's definitions, one level open
module _ (v : Variant) (t : Tolerances) (gamma : Float) (n : ℕ) where
  pub step_at-is : (j k : ℕ) (tie : Bool) (s : Run)
      → step_at v t gamma n j k tie s ≡ cond (leaves_after v t gamma n j (pivot_matrix n j k s.l)) (leave j (pivot n j k tie s)) (factorize n j (pivot n j k tie s))
  unfolding step_at pivot
  step_at-is j k tie s = refl

  pub last_pair-is : (s : Run) → last_pair v t gamma n s ≡ add_last n (pair_of v t gamma n s.l s.progress.delta_prev) s
  unfolding last_pair
  last_pair-is s = refl

module _ (v : Variant) (t : Tolerances) (numbers : List ℕ) (gamma : Float) (n : ℕ) where
  pub phase_one_step-is : (j : ℕ) (s : Run)
      → phase_one_step v t numbers gamma n j s
      ≡ cond (leaves_before v t gamma n j s.l) (leave j s)
      (step_at v t gamma n j (pick numbers s.p false (diagonal n s.l) j).index (pick numbers s.p false (diagonal n s.l) j).tied s)
  unfolding phase_one_step
  phase_one_step-is j s = refl

  pub in_phase_one-is : (j : ℕ) (s : Run) → in_phase_one v t numbers gamma n j s ≡ cond (stopped s.progress) s (phase_one_step v t numbers gamma n j s)
  unfolding in_phase_one
  in_phase_one-is j s = refl

  pub phase_one-is : (s : Run) → phase_one v t numbers gamma n s ≡ range 0 n (in_phase_one v t numbers gamma n) s
  unfolding phase_one
  phase_one-is s = refl

  pub phase_two_step-is : (j : ℕ) (s : Run) → phase_two_step v t numbers gamma n j s ≡ cond (marked s.progress.refused) s (phase_two_step_at v t gamma n j (pick numbers s.p false s.g j).index s)
  unfolding phase_two_step
  phase_two_step-is j s = refl

  pub pairs_is : (k : ℕ) (s : Run)
      → pairs v t numbers gamma n k s
      ≡ cond (marked (range k (n - 2) (phase_two_step v t numbers gamma n) (begin n k s)).progress.refused) (range k (n - 2) (phase_two_step v t numbers gamma n) (begin n k s))
      (last_pair v t gamma n (range k (n - 2) (phase_two_step v t numbers gamma n) (begin n k s)))
  unfolding pairs
  pairs_is k s = refl

  pub phase_two_from-is : (k : ℕ) (s : Run) → phase_two_from v t numbers gamma n k s ≡ cond (eqb k (n - 1)) (last_one v t gamma n s) (pairs v t numbers gamma n k s)
  unfolding phase_two_from
  phase_two_from-is k s = refl

  pub after_never : (m : Mark) (s : Run) → m ≡ None → phase_two_after v t numbers gamma n m s ≡ s
  unfolding phase_two_after
  after_never m s e = rw e

  pub after-step : (m : Mark) (k : ℕ) (s : Run) → m ≡ Some k → phase_two_after v t numbers gamma n m s ≡ phase_two_from v t numbers gamma n k s
  unfolding phase_two_after
  after-step m k s e = rw e

pub last_one-is : (v : Variant) (t : Tolerances) (gamma : Float) (n : ℕ) (s : Run) → last_one v t gamma n s ≡ add_last n (one_of v t gamma (at n s.l (n - 1) (n - 1))) s
unfolding last_one
last_one-is v t gamma n s = refl

pub run_is : (v : Variant) (t : Tolerances) (numbers : List ℕ) (n : ℕ) (a : List Float) → run v t numbers n a ≡ phase_two v t numbers (diagonal_max n a) n (phase_one v t numbers (diagonal_max n a) n (start n a))
unfolding run
run_is v t numbers n a = refl

pub rows-of_pair : (v : Variant) (t : Tolerances) (gamma : Float) (n : ℕ) (l : List Float) (delta-prev : Float) (last : Last) → last ≡ pair_of v t gamma n l delta-prev → rows_of last ≡ 2
unfolding pair_of
rows-of_pair v t gamma n l delta-prev last e = rw e

pub rows-of_one : (v : Variant) (t : Tolerances) (gamma ljj : Float) (last : Last) → last ≡ one_of v t gamma ljj → rows_of last ≡ 1
unfolding one_of
rows-of_one v t gamma ljj last e = rw e

-- ---- marks of steps below n
abbrev pub Below : ℕ → Mark → Type 0
Below n m = (k : ℕ) → m ≡ Some k → k < n

pub never_below : (n : ℕ) → Below n None
never_below n k e = absurd (let z : ◌≡◌ {A = ℕ} 0 1 = cc in omega arith)

pub mark-below : (n j : ℕ) (m : Mark) (b : Bool) → j < n → Below n m → Below n (mark m b j)
mark-below n j None true h B k e = let z : j ≡ k = cc in omega arith
mark-below n j None false h B k e = B k e
mark-below n j (Some i) b h B k e = B k e
