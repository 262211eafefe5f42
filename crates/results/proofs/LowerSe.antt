-- L of SE90 and SE99 is finite, with +0.0 above the diagonal.
use mathlib.Core.Path.{◌≡◌, subst}
use mathlib.Core.List.{List}
use mathlib.Core.Bool.{true}
use Prim.Native.Nat.{ℕ, ◌+◌, ◌-◌, ◌≤◌, ◌<◌}
use native.Mathlib.Omega.{arith}
use lib.Ieee.{Float}
use lib.Ieee.Scale.{finite}
use Rattle.matrix.specs.Matrix.{at}
use Rattle.matrix.specs.declared.utils.Eigen.{Eigen}
use Rattle.matrix.proofs.EntryLaws.{at_put_other}
use Rattle.methods.specs.Statements.{pivot_matrix, eliminate, diagonal_max, lower_triangle}
use Rattle.methods.specs.Se.{Run, start, pivot, factorize, begin, added, phase_two_step_at, pair_of, one_of, add_pair, add_one, add_last, rows_of, last_pair, last_one, run}
use Rattle.std.specs.Prelude.{None}
use Rattle.methods.specs.declared.schnabel_eskow.Tolerances.{Tolerances}
use Rattle.methods.specs.declared.schnabel_eskow.Variant.{Variant}
use Rattle.methods.specs.declared.schnabel_eskow.Last.{Last}
use Rattle.methods.specs.declared.schnabel_eskow.Last.TheVariants.{One, Pair}
use Rattle.methods.specs.AcceptedMatrix.{AcceptedMatrix}
use Rattle.methods.proofs.FiniteEntries.{FiniteEntries, pivot-finite}
use Rattle.methods.proofs.SeRuns.{KeptInPhaseOne, KeptInPhaseTwo, run-keeps}
use Rattle.results.specs.Results.{LowerFactor}
use Rattle.results.proofs.SeTests.{factorize-never, begin-never, amount_at, added_at, step-tested, one₁, one-tested, pair₁, pair₂, pair₃, pair₄, pair_tested}
use Rattle.results.proofs.LowerFinite.{put-finite, outside_put, outside_self, outside_eliminate, block_finite_lem}
use Rattle.results.proofs.LowerTriangle.{triangle_lower}

-- until the run is refused
abbrev FiniteRun : ℕ → Run → Type 0
FiniteRun n s = s.progress.refused ≡ None → FiniteEntries n s.l

-- ---- phase one
kept-one : (v : Variant) (t : Tolerances) (gamma : Float) (n : ℕ) → KeptInPhaseOne v t gamma n (FiniteRun n)
unfolding pivot factorize
kept-one v t gamma n = record {
  by_leave = λ j s h m w F. F;
  by_pivot = λ j k tie s h hk m F e. pivot-finite n j k s.l h hk (F e);
  by_factorize = λ j s h m F e.
      let R = factorize-never n j s e in
      let f = F R.before in
      block_finite_lem n j s.l (eliminate n j s.l) h f (outside_eliminate n j s.l h s.l (outside_self n j s.l f.entries)) R.test;
}

-- ---- phase two
begin-finite : (n k : ℕ) (s : Run) → FiniteRun n s → FiniteRun n (begin n k s)
begin-finite n k s F e = unfold begin in F (begin-never n k s e)

step-finite : (v : Variant) (t : Tolerances) (gamma : Float) (n j k : ℕ) (s : Run) → j < n → j + k < n → FiniteRun n s → FiniteRun n (phase_two_step_at v t gamma n j k s)
unfolding phase_two_step_at
step-finite v t gamma n j k s h hk F e =
    let l₁ = pivot_matrix n j k s.l in
    let l₂ = added_at v t gamma n j k s in
    let T = step-tested v t gamma n j k s e in
    let f = pivot-finite n j k s.l h hk (F T.before) in
    let O = outside_put n j j j l₁ l₁ (added (at n l₁ j j) (amount_at v t gamma n j k s)) (omega arith) (omega arith) h (outside_self n j l₁ f.entries) in
    block_finite_lem n j l₁ (eliminate n j l₂) h f (outside_eliminate n j l₁ h l₂ O) T.block

-- ---- the last block
add-one_finite : (n : ℕ) (ej : Float) (s : Run) → 1 ≤ n → FiniteRun n s → FiniteRun n (add_one n ej s)
unfolding add_one
add-one_finite n ej s h F e =
    let T = one-tested n ej s e in
    put-finite n (one₁ n ej s.l) (n - 1) (n - 1) _ (omega arith) T.second (put-finite n s.l (n - 1) (n - 1) _ (omega arith) T.first (F T.before))

add-pair_finite : (n : ℕ) (x : Eigen) (ea : Float) (s : Run) → 2 ≤ n → FiniteRun n s → FiniteRun n (add_pair n x ea s)
unfolding add_pair
add-pair_finite n x ea s h F e =
    let a = n - 2 in
    let b = n - 1 in
    let l = s.l in
    let T = pair_tested n x ea s e in
    let aa : at n (pair₂ n ea l) a a ≡ at n (pair₁ n ea l) a a = at_put_other n (pair₁ n ea l) b b a a _ (omega arith) (omega arith) (λ u w. omega arith) in
    let f₁ : FiniteEntries n (pair₁ n ea l) = put-finite n l a a _ (omega arith) (subst (λ (v : Float). finite v ≡ true) aa T.first) (F T.before) in
    let f₂ : FiniteEntries n (pair₂ n ea l) = put-finite n (pair₁ n ea l) b b _ (omega arith) T.second f₁ in
    let f₃ : FiniteEntries n (pair₃ n ea l) = put-finite n (pair₂ n ea l) a a _ (omega arith) T.third f₂ in
    let f₄ : FiniteEntries n (pair₄ n ea l) = put-finite n (pair₃ n ea l) b a _ (omega arith) T.fourth f₃ in
    put-finite n (pair₄ n ea l) b b _ (omega arith) T.fifth f₄

last_finite : (n : ℕ) (last : Last) (s : Run) → rows_of last ≤ n → FiniteRun n s → FiniteRun n (add_last n last s)
last_finite n (One ej) s h F = add-one_finite n ej s h F
last_finite n (Pair x ea) s h F = add-pair_finite n x ea s h F

kept-two : (v : Variant) (t : Tolerances) (gamma : Float) (n : ℕ) → KeptInPhaseTwo v t gamma n (FiniteRun n) (FiniteRun n)
unfolding last_pair last_one pair_of one_of
kept-two v t gamma n = record {
  after_one = λ s F. F;
  by_begin = λ k s h F. begin-finite n k s F;
  by_step = step-finite v t gamma n;
  by_pair = λ s h F. last_finite n (pair_of v t gamma n s.l s.progress.delta_prev) s h F;
  by_one = λ s h m F. last_finite n (one_of v t gamma (at n s.l (n - 1) (n - 1))) s h F;
}

-- ---- a whole run
start-finite : (n : ℕ) (a : List Float) → AcceptedMatrix n a → FiniteRun n (start n a)
unfolding start
start-finite n a A e = record { entries = A.entries; each = A.finite_entries }

finite_se : (v : Variant) (t : Tolerances) (numbers : List ℕ) (n : ℕ) (a : List Float) → AcceptedMatrix n a → (run v t numbers n a).progress.refused ≡ None → FiniteEntries n (run v t numbers n a).l
finite_se v t numbers n a A = run-keeps v t numbers n a (FiniteRun n) (FiniteRun n) (kept-one v t (diagonal_max n a) n) (kept-two v t (diagonal_max n a) n) (start-finite n a A)

pub lower-se : (v : Variant) (t : Tolerances) (numbers : List ℕ) (n : ℕ) (a : List Float) → AcceptedMatrix n a → (run v t numbers n a).progress.refused ≡ None → LowerFactor n (lower_triangle n (run v t numbers n a).l)
lower-se v t numbers n a A e = triangle_lower n (run v t numbers n a).l (finite_se v t numbers n a A e)
