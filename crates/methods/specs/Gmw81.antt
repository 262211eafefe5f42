-- GMW81, statement by statement beside src/gmw81.rs.
use Rattle.std.specs.Prelude.{◌≡◌, List, Bool, true, cond, ◌&&◌, ℕ, ◌+◌, ◌-◌, ◌*◌, ◌/◌, ◌%◌, pos, get_or, set, eqb, ltb, Float}
use Rattle.std.specs.Float.{nan, binary64}
use Rattle.std.specs.Float.Ieee.{of_int}
use Rattle.std.specs.Float.Ieee.Scale.{finite}
use Rattle.arithmetic.specs.All.{all}
use Rattle.arithmetic.specs.Double.{plus_zero, one, epsilon, ◌⊕◌, ◌⊖◌, ◌⊗◌, ◌⊘◌, square, abs, max}
use Rattle.arithmetic.specs.Loop.{range}
use Rattle.arithmetic.specs.Sqrt.{sqrt, inexact}
use Rattle.matrix.specs.Matrix.{at, put, zeros}
use Rattle.matrix.specs.Table.{table}
use Rattle.methods.specs.Marks.{marked}
use Rattle.methods.specs.Progress.{begun, searched, stored, counted, one_if, stopped}
use Rattle.methods.specs.Statements.{larger_magnitude, diagonal_max, diagonal, pick, pivot_matrix, pivot_list, lower_triangle, reorder}
use Rattle.methods.specs.Result.{Result, identity, hand_back}
use Rattle.methods.specs.declared.gmw81.StepValues.{StepValues}
use Rattle.methods.specs.declared.progress.Progress.{Progress}

-- ---- before the steps

-- l.indexed_iter().filter(|((i, j), _)| i != j).fold(0.0, ..): row by row
unfoldable pub fold_off_diagonal : ℕ → List Float → ℕ → ℕ → Float → Float
unfolding larger_magnitude
fold_off_diagonal n l i k acc = cond (eqb i k) acc (larger_magnitude acc (at n l i k))

unfoldable pub fold_row : ℕ → List Float → ℕ → Float → Float
unfolding range fold_off_diagonal
fold_row n l i acc = range 0 n (fold_off_diagonal n l i) acc

unfoldable pub off_diagonal_max : ℕ → List Float → Float
unfolding range fold_row
off_diagonal_max n l = range 0 n (fold_row n l) plus_zero

-- EPSILON * 1.0.max(diag_max + off_diag_max)
unfoldable pub delta_of : Float → Float → Float
delta_of diag-max off-diag-max = epsilon ⊗ max one (diag-max ⊕ off-diag-max)

-- n as f64
unfoldable pub count : ℕ → Float
unfolding of_int
count n = of_int binary64 (pos n)

-- diag_max.max(off_diag_max / ((n as f64).powi(2) - 1.0).sqrt()).max(EPSILON).sqrt(). At n = 1 the quotient is NaN, which max drops.
unfoldable pub beta_of : ℕ → Float → Float → Float
unfolding sqrt count
beta_of n diag-max off-diag-max = sqrt (max (max diag-max (off-diag-max ⊘ sqrt (square (count n) ⊖ one))) epsilon)

-- ---- a run's variables
pub record Run : Type 0 where
  pub l : List Float
  pub c : List Float
  pub d : List Float
  pub e : List Float
  pub p : List ℕ
  pub progress : Progress

abbrev pub state : List Float → List Float → List Float → List Float → List ℕ → Progress → Run
state l c d e p r = record { l = l; c = c; d = d; e = e; p = p; progress = r }

-- c.diag_mut().assign(&l.diag())
unfoldable pub start : ℕ → List Float → Run
unfolding range table
start n a = record {
  l = a;
  c = range 0 n (λ i c. put n c i i (at n a i i)) (zeros (n * n));
  d = zeros n;
  e = zeros n;
  p = identity n;
  progress = begun;
}

-- ---- a step

-- l[(j, s)] = c[(j, s)] / d[s]
unfoldable pub divide_row : ℕ → ℕ → List Float → List Float → List Float → List Float
unfolding range
divide_row n j c d l = range 0 j (λ s m. put n m j s (at n c j s ⊘ get_or d s nan)) l

-- (&l.slice(s![j, 0..j]) * &c.slice(s![i, 0..j])).sum()
unfoldable pub dot : ℕ → ℕ → List Float → List Float → ℕ → Float
unfolding range
dot n j l c i = range 0 j (λ s sum. sum ⊕ at n l j s ⊗ at n c i s) plus_zero

-- for i in j..n { c[(i, j)] = l[(i, j)] - .. }: c(j, j) is worked out anew too
unfoldable pub column : ℕ → ℕ → List Float → List Float → List Float
unfolding range dot
column n j l c = range j n (λ i m. put n m i j (at n l i j ⊖ dot n j l m i)) c

unfoldable pub theta_of : ℕ → ℕ → List Float → Float
unfolding range larger_magnitude
theta_of n j c = cond (ltb j (n - 1)) (range (j + 1) n (λ i acc. larger_magnitude acc (at n c i j)) plus_zero) plus_zero

-- c[(j, j)].abs().max((theta / beta).powi(2)).max(delta)
unfoldable pub d_of : Float → Float → Float → Float → Float
unfolding abs
d_of cjj theta beta delta = max (max (abs cjj) (square (theta ⊘ beta))) delta

-- let c2 = c[(i, j)].powi(2); c[(i, i)] -= c2 / d[j];
unfoldable pub update_diagonal : ℕ → ℕ → Float → List Float → List Float
unfolding range
update_diagonal n j dj c = cond (ltb j (n - 1)) (range (j + 1) n (λ i m. put n m i i (at n m i i ⊖ square (at n m i j) ⊘ dj)) c) c

-- what step j stored: l(j, 0..j), c(j.., j), c's diagonal after j, d[j] and e[j]
unfoldable pub stored_finite : ℕ → ℕ → List Float → List Float → Float → Float → Bool
unfolding all
stored_finite n j l c dj ej =
    all 0 j (λ s. finite (at n l j s)) && all j n (λ i. finite (at n c i j)) && all (j + 1) n (λ i. finite (at n c i i)) && finite dj && finite ej

-- the jth step with the pivot max_idx after j, and whether its search was tied
unfoldable pub step_at : ℕ → Float → Float → ℕ → ℕ → Bool → Run → Run
unfolding pivot_matrix pivot_list divide_row column theta_of d_of update_diagonal stored_finite
step_at n delta beta j max-idx tie s =
    let l₁ = pivot_matrix n j max-idx s.l in
    let c₁ = pivot_matrix n j max-idx s.c in
    let l₂ = divide_row n j c₁ s.d l₁ in
    let c₂ = column n j l₂ c₁ in
    let dj = d_of (at n c₂ j j) (theta_of n j c₂) beta delta in
    let c₃ = update_diagonal n j dj c₂ in
    let ej = dj ⊖ at n c₃ j j in
    record {
      l = l₂;
      c = c₃;
      d = set s.d j dj;
      e = set s.e j ej;
      p = pivot_list 0 j max-idx s.p;
      progress = stored (stored_finite n j l₂ c₃ dj ej) j (searched tie j s.progress);
    }

-- the values of a step between its pivot and its stores to d and e, as the code hands them on
abbrev pub c₂Of : ℕ → ℕ → ℕ → List Float → List Float → List Float → List Float
c₂Of n j max-idx l c d = column n j (divide_row n j (pivot_matrix n j max-idx c) d (pivot_matrix n j max-idx l)) (pivot_matrix n j max-idx c)

abbrev pub dj_of : ℕ → Float → Float → ℕ → List Float → Float
dj_of n delta beta j c₂ = d_of (at n c₂ j j) (theta_of n j c₂) beta delta

pub record Stepped (n : ℕ) (delta beta : Float) (j max-idx : ℕ) (l c d l' c' : List Float) (v : StepValues) : Type 0 where
  pub l_is : l' ≡ divide_row n j (pivot_matrix n j max-idx c) d (pivot_matrix n j max-idx l)
  pub c_is : c' ≡ update_diagonal n j (dj_of n delta beta j (c₂Of n j max-idx l c d)) (c₂Of n j max-idx l c d)
  pub d_is : v.d ≡ dj_of n delta beta j (c₂Of n j max-idx l c d)
  pub e_is : v.e ≡ v.d ⊖ at n c' j j
  pub pivot_is : v.pivot ≡ max-idx

-- index_of_largest_abs(&c.diag().slice(s![j..])), ties by number where contracts have numbers; nothing once the run is refused
unfoldable pub step : List ℕ → ℕ → Float → Float → ℕ → Run → Run
unfolding pick diagonal step_at
step numbers n delta beta j s =
    let f = pick numbers s.p true (diagonal n s.c) j in
    let next = step_at n delta beta j f.index f.tied s in
    cond (stopped s.progress) s next

-- ---- after the steps

-- dout: the roots of d on the diagonal of eye(n)
unfoldable pub dout_of : ℕ → List Float → List Float
unfolding table sqrt
dout_of n d = table (n * n) (λ k. cond (eqb (k / n) (k % n)) (sqrt (get_or d (k / n) nan)) plus_zero)

-- how many of these roots are inexact
abbrev pub count_root : List Float → ℕ → ℕ → ℕ
count_root d i k = k + one_if (inexact (get_or d i nan))

unfoldable pub inexact_roots : ℕ → List Float → ℕ
unfolding range inexact
inexact_roots n d = range 0 n (count_root d) 0

-- l.diag_mut().assign(&ones), and the strict upper part +0.0
unfoldable pub unit_lower : ℕ → List Float → List Float
unfolding range lower_triangle
unit_lower n l = lower_triangle n (range 0 n (λ i m. put n m i i one) l)

-- a.dot(&b): each entry adds its products left to right from +0.0
unfoldable pub product : ℕ → List Float → List Float → List Float
unfolding table range
product n a b = table (n * n) (λ k. range 0 n (λ t sum. sum ⊕ at n a (k / n) t ⊗ at n b t (k % n)) plus_zero)

-- step n stores the roots in dout and the scaled factor
unfoldable pub scaled_finite : ℕ → List Float → List Float → Bool
unfolding all
scaled_finite n dout l = all 0 (n * n) (λ k. finite (get_or dout k nan)) && all 0 (n * n) (λ k. finite (get_or l k nan))

unfoldable pub finish : ℕ → Run → Run
unfolding dout_of inexact_roots unit_lower product scaled_finite reorder
finish n s =
    let dout = dout_of n s.d in
    let l = product n (unit_lower n s.l) dout in
    let next : Run = record {
      l = l;
      c = s.c;
      d = s.d;
      e = reorder n s.p s.e;
      p = s.p;
      progress = stored (scaled_finite n dout l) n (counted (inexact_roots n s.d) s.progress);
    } in
    cond (marked s.progress.refused) s next

-- what the code's end of a run leaves: d is used up
pub record Finished (n : ℕ) (l c d e : List Float) (p : List ℕ) (r : Progress) (l' e' : List Float) (r' : Progress) : Type 0 where
  pub l_is : l' ≡ (finish n (state l c d e p r)).l
  pub e_is : e' ≡ (finish n (state l c d e p r)).e
  pub progress_is : r' ≡ (finish n (state l c d e p r)).progress

-- ---- a whole run

-- after its steps
abbrev pub stepped : List ℕ → ℕ → List Float → Run
stepped numbers n a =
    let diag-max = diagonal_max n a in
    let off-diag-max = off_diagonal_max n a in
    let delta = delta_of diag-max off-diag-max in
    let beta = beta_of n diag-max off-diag-max in
    range 0 n (step numbers n delta beta) (start n a)

unfoldable pub run : List ℕ → ℕ → List Float → Run
unfolding range start step finish diagonal_max off_diagonal_max delta_of beta_of
run numbers n a = finish n (stepped numbers n a)

unfoldable pub mod_cholesky_gmw81 : List ℕ → ℕ → List Float → Result
unfolding run
mod_cholesky_gmw81 numbers n a = let s = run numbers n a in hand_back n s.progress s.l s.e s.p
