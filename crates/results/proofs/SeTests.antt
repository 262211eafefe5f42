-- What the statements of SE90 and SE99 tested where they refused nothing.
use mathlib.Core.Path.{◌≡◌}
use mathlib.Core.List.{List}
use mathlib.Core.Bool.{true, ◌&&◌}
use Prim.Native.Nat.{ℕ, ◌+◌, ◌-◌}
use lib.ListN.{get_or}
use lib.Ieee.{Float, nan}
use lib.Ieee.Scale.{finite}
use Rattle.arithmetic.specs.All.{all}
use Rattle.arithmetic.specs.Double.{◌⊕◌, ◌⊖◌, ◌⊘◌, square}
use Rattle.arithmetic.proofs.OrderLaws.{and_1, and_2}
use Rattle.arithmetic.specs.Sqrt.{sqrt}
use Rattle.matrix.specs.Matrix.{at, put}
use Rattle.matrix.specs.declared.utils.Eigen.{Eigen}
use Rattle.methods.specs.Statements.{pivot_matrix, pivot_list, eliminate, block_finite}
use Rattle.methods.specs.Se.{Run, factorize, begin, bounds, column_sum, amount, added, update_bounds, phase_two_step_at, add_pair, add_one}
use Rattle.std.specs.Prelude.{None}
use Rattle.methods.specs.declared.schnabel_eskow.Tolerances.{Tolerances}
use Rattle.methods.specs.declared.schnabel_eskow.Variant.{Variant}
use Rattle.methods.proofs.Refused.{NotRefused, goes_on}

pub factorize-never : (n j : ℕ) (s : Run) → (factorize n j s).progress.refused ≡ None → NotRefused s.progress.refused (block_finite n j (eliminate n j s.l))
unfolding factorize
factorize-never n j s e = goes_on s.progress.refused (block_finite n j (eliminate n j s.l)) j e

pub begin-never : (n k : ℕ) (s : Run) → (begin n k s).progress.refused ≡ None → s.progress.refused ≡ None
unfolding begin
begin-never n k s e = (goes_on s.progress.refused (all k n (λ i. finite (get_or (bounds n k s.l s.g) i nan))) k e).before

-- ---- the jth step of phase two: normj, e[j], and l with the sum on the diagonal
abbrev pub norm_at : ℕ → ℕ → ℕ → Run → Float
norm_at n j k s = column_sum n (pivot_matrix n j k s.l) j (j + 1) n

abbrev pub amount_at : Variant → Tolerances → Float → ℕ → ℕ → ℕ → Run → Float
amount_at v t gamma n j k s = amount v t gamma s.progress.delta_prev (at n (pivot_matrix n j k s.l) j j) (norm_at n j k s)

abbrev pub added_at : Variant → Tolerances → Float → ℕ → ℕ → ℕ → Run → List Float
added_at v t gamma n j k s = put n (pivot_matrix n j k s.l) j j (added (at n (pivot_matrix n j k s.l) j j) (amount_at v t gamma n j k s))

pub record StepTested (v : Variant) (t : Tolerances) (gamma : Float) (n j k : ℕ) (s : Run) : Type 0 where
  pub before : s.progress.refused ≡ None
  pub amount-finite : finite (amount_at v t gamma n j k s) ≡ true
  pub block : block_finite n j (eliminate n j (added_at v t gamma n j k s)) ≡ true

pub step-tested : (v : Variant) (t : Tolerances) (gamma : Float) (n j k : ℕ) (s : Run) → (phase_two_step_at v t gamma n j k s).progress.refused ≡ None → StepTested v t gamma n j k s
unfolding phase_two_step_at
step-tested v t gamma n j k s e =
    let l₂ = added_at v t gamma n j k s in
    let first = finite (norm_at n j k s) in
    let second = finite (amount_at v t gamma n j k s) in
    let third = finite (at n l₂ j j) in
    let fourth = all (j + 1) n (λ i. finite (get_or (update_bounds n j l₂ (norm_at n j k s) (pivot_list nan j k s.g)) i nan)) in
    let fifth = block_finite n j (eliminate n j l₂) in
    let R = goes_on s.progress.refused (first && second && third && fourth && fifth) j e in
    let e₄ = and_1 (first && second && third && fourth) fifth R.test in
    let e₃ = and_1 (first && second && third) fourth e₄ in
    record {
      before = R.before;
      amount-finite = and_2 first second (and_1 (first && second) third e₃);
      block = and_2 (first && second && third && fourth) fifth R.test;
    }

-- ---- the one amount
abbrev pub one₁ : ℕ → Float → List Float → List Float
one₁ n ej l = put n l (n - 1) (n - 1) (at n l (n - 1) (n - 1) ⊕ ej)

abbrev pub one₂ : ℕ → Float → List Float → List Float
one₂ n ej l = put n (one₁ n ej l) (n - 1) (n - 1) (sqrt (at n (one₁ n ej l) (n - 1) (n - 1)))

pub record OneTested (n : ℕ) (ej : Float) (s : Run) : Type 0 where
  pub before : s.progress.refused ≡ None
  pub amount-finite : finite ej ≡ true
  pub first : finite (at n (one₁ n ej s.l) (n - 1) (n - 1)) ≡ true
  pub second : finite (at n (one₂ n ej s.l) (n - 1) (n - 1)) ≡ true

pub one-tested : (n : ℕ) (ej : Float) (s : Run) → (add_one n ej s).progress.refused ≡ None → OneTested n ej s
unfolding add_one
one-tested n ej s e =
    let sum = finite (at n (one₁ n ej s.l) (n - 1) (n - 1)) in
    let root = finite (at n (one₂ n ej s.l) (n - 1) (n - 1)) in
    let R = goes_on s.progress.refused (finite ej && sum && root) (n - 1) e in
    let e₁ = and_1 (finite ej && sum) root R.test in
    record { before = R.before; amount-finite = and_1 (finite ej) sum e₁; first = and_2 (finite ej) sum e₁; second = and_2 (finite ej && sum) root R.test }

-- ---- the pair: a is row n - 2, b is row n - 1
abbrev pub pair₁ : ℕ → Float → List Float → List Float
pair₁ n ea l = put n l (n - 2) (n - 2) (added (at n l (n - 2) (n - 2)) ea)

abbrev pub pair₂ : ℕ → Float → List Float → List Float
pair₂ n ea l = put n (pair₁ n ea l) (n - 1) (n - 1) (added (at n (pair₁ n ea l) (n - 1) (n - 1)) ea)

abbrev pub pair₃ : ℕ → Float → List Float → List Float
pair₃ n ea l = put n (pair₂ n ea l) (n - 2) (n - 2) (sqrt (at n (pair₂ n ea l) (n - 2) (n - 2)))

abbrev pub pair₄ : ℕ → Float → List Float → List Float
pair₄ n ea l = put n (pair₃ n ea l) (n - 1) (n - 2) (at n (pair₃ n ea l) (n - 1) (n - 2) ⊘ at n (pair₃ n ea l) (n - 2) (n - 2))

abbrev pub pair₅ : ℕ → Float → List Float → List Float
pair₅ n ea l = put n (pair₄ n ea l) (n - 1) (n - 1) (sqrt (at n (pair₄ n ea l) (n - 1) (n - 1) ⊖ square (at n (pair₄ n ea l) (n - 1) (n - 2))))

pub record PairTested (n : ℕ) (ea : Float) (s : Run) : Type 0 where
  pub before : s.progress.refused ≡ None
  pub amount-finite : finite ea ≡ true
  pub first : finite (at n (pair₂ n ea s.l) (n - 2) (n - 2)) ≡ true
  pub second : finite (at n (pair₂ n ea s.l) (n - 1) (n - 1)) ≡ true
  pub third : finite (at n (pair₃ n ea s.l) (n - 2) (n - 2)) ≡ true
  pub fourth : finite (at n (pair₄ n ea s.l) (n - 1) (n - 2)) ≡ true
  pub fifth : finite (at n (pair₅ n ea s.l) (n - 1) (n - 1)) ≡ true

pub pair_tested : (n : ℕ) (x : Eigen) (ea : Float) (s : Run) → (add_pair n x ea s).progress.refused ≡ None → PairTested n ea s
unfolding add_pair
pair_tested n x ea s e =
    let eigenvalues = finite x.hi && finite x.lo in
    let aa = finite (at n (pair₂ n ea s.l) (n - 2) (n - 2)) in
    let bb = finite (at n (pair₂ n ea s.l) (n - 1) (n - 1)) in
    let root = finite (at n (pair₃ n ea s.l) (n - 2) (n - 2)) in
    let below = finite (at n (pair₄ n ea s.l) (n - 1) (n - 2)) in
    let corner = finite (at n (pair₅ n ea s.l) (n - 1) (n - 1)) in
    let others = eigenvalues && finite ea in
    let R = goes_on s.progress.refused (others && aa && bb && root && below && corner) (n - 2) e in
    let e₄ = and_1 (others && aa && bb && root && below) corner R.test in
    let e₃ = and_1 (others && aa && bb && root) below e₄ in
    let e₂ = and_1 (others && aa && bb) root e₃ in
    let e₁ = and_1 (others && aa) bb e₂ in
    record {
      before = R.before;
      amount-finite = and_2 eigenvalues (finite ea) (and_1 others aa e₁);
      first = and_2 others aa e₁;
      second = and_2 (others && aa) bb e₂;
      third = and_2 (others && aa && bb) root e₃;
      fourth = and_2 (others && aa && bb && root) below e₄;
      fifth = and_2 (others && aa && bb && root && below) corner R.test;
    }
