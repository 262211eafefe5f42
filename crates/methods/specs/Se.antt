-- SE90 and SE99, statement by statement beside src/se90.rs and src/se99.rs, SE90 with document 02's N6. They share all but the tests of
-- phase one, the least amount and the last amount.
use Rattle.std.specs.Prelude.{◌≡◌, List, Bool, true, false, cond, ◌&&◌, ◌||◌, ℕ, ◌+◌, ◌-◌, get_or, set, eqb, Float, None, Some}
use Rattle.std.specs.Float.{nan, inf}
use Rattle.std.specs.Float.Ieee.{lt, le, neg}
use Rattle.std.specs.Float.Ieee.Scale.{finite}
use Rattle.arithmetic.specs.All.{all}
use Rattle.arithmetic.specs.Double.{plus_zero, one, epsilon, ◌⊕◌, ◌⊖◌, ◌⊗◌, ◌⊘◌, square, abs, max}
use Rattle.arithmetic.specs.Loop.{range}
use Rattle.arithmetic.specs.Sqrt.{sqrt, inexact}
use Rattle.matrix.specs.Matrix.{at, put, zeros}
use Rattle.matrix.specs.Table.{table}
use Rattle.matrix.specs.Eigenvalues.{eigenvalues_of}
use Rattle.matrix.specs.declared.utils.Eigen.{Eigen}
use Rattle.methods.specs.Marks.{marked, Mark}
use Rattle.methods.specs.Progress.{begun, searched, left, stored, counted, one_if, kept, stopped}
use Rattle.methods.specs.Statements.{diagonal_max, diagonal, pick, pivot_matrix, pivot_list, eliminate, lower_triangle, reorder, block_finite}
use Rattle.methods.specs.Result.{Result, identity, hand_back}
use Rattle.methods.specs.declared.progress.Progress.{Progress}
use Rattle.methods.specs.declared.progress.Stores.{Stores}
use Rattle.methods.specs.declared.schnabel_eskow.Tolerances.{Tolerances}
use Rattle.methods.specs.declared.schnabel_eskow.Variant.{Variant}
use Rattle.methods.specs.declared.schnabel_eskow.Variant.TheVariants.{Se90, Se99}
use Rattle.methods.specs.declared.schnabel_eskow.Last.{Last}
use Rattle.methods.specs.declared.schnabel_eskow.Last.TheVariants.{One, Pair}

pub record Run : Type 0 where
  pub l : List Float
  pub e : List Float
  pub g : List Float
  pub p : List ℕ
  pub progress : Progress

abbrev pub state : List Float → List Float → List Float → List ℕ → Progress → Run
state l e g p r = record { l = l; e = e; g = g; p = p; progress = r }

-- the state with +0.0 above the diagonal of l
abbrev pub lowered : ℕ → Run → Run
lowered n s = state (lower_triangle n s.l) s.e s.g s.p s.progress

unfoldable pub start : ℕ → List Float → Run
unfolding table
start n a = state a (zeros n) (zeros n) (identity n) begun

-- ---- phase one

-- l[(i, i)] - l[(i, j)].powi(2) / l[(j, j)], the smallest of them: |acc, i| if nv < acc { nv } else { acc }, from infinity
unfoldable pub fold_next : ℕ → ℕ → List Float → ℕ → Float → Float
unfolding lt
fold_next n j l i acc =
    let nv = at n l i i ⊖ square (at n l i j) ⊘ at n l j j in
    cond (lt nv acc) nv acc

unfoldable pub tmp_of : ℕ → ℕ → List Float → Float
unfolding range fold_next
tmp_of n j l = range (j + 1) n (fold_next n j l) (inf false)

-- SE99's aii_max and aii_min over l.diag().slice(s![j..])
unfoldable pub aii_max : ℕ → ℕ → List Float → Float
unfolding range lt
aii_max n j l = range j n (λ i acc. cond (lt acc (at n l i i)) (at n l i i) acc) (inf true)

unfoldable pub aii_min : ℕ → ℕ → List Float → Float
unfolding range lt
aii_min n j l = range j n (λ i acc. cond (lt (at n l i i) acc) (at n l i i) acc) (inf false)

-- the test before the search: SE99's alone
unfoldable pub leaves_before : Variant → Tolerances → Float → ℕ → ℕ → List Float → Bool
unfolding aii_max aii_min neg
leaves_before Se90 t gamma n j l = false
leaves_before Se99 t gamma n j l =
    let aii-max = aii_max n j l in
    lt aii-max (t.tau_bar ⊗ gamma) || lt (aii_min n j l) (neg t.mu ⊗ aii-max)

-- the test after search and swap, of step j on the matrix with its pivot at (j, j): SE90 also ends on a pivot that is zero, of either
-- sign, or negative (document 02, N6)
unfoldable pub leaves_after : Variant → Tolerances → Float → ℕ → ℕ → List Float → Bool
unfolding tmp_of lt le neg
leaves_after Se90 t gamma n j l = le (at n l j j) plus_zero || lt (tmp_of n j l) (t.tau ⊗ gamma)
leaves_after Se99 t gamma n j l = lt (tmp_of n j l) (neg t.mu ⊗ gamma)

-- the run leaves phase one at step j
abbrev pub leave : ℕ → Run → Run
leave j s = state s.l s.e s.g s.p (left j s.progress)

-- the pivot max_idx after j goes to j
unfoldable pub pivot : ℕ → ℕ → ℕ → Bool → Run → Run
unfolding pivot_matrix pivot_list
pivot n j max-idx tie s = state (pivot_matrix n j max-idx s.l) s.e s.g (pivot_list 0 j max-idx s.p) (searched tie j s.progress)

-- the root taken on the diagonal in step j, where it is inexact
abbrev pub counted_at : ℕ → ℕ → List Float → Progress → Progress
counted_at n j l r = counted (one_if (inexact (at n l j j))) r

-- the jth iteration of the factorization: it stores rows and columns j to n - 1
unfoldable pub factorize : ℕ → ℕ → Run → Run
unfolding eliminate block_finite inexact
factorize n j s =
    let l = eliminate n j s.l in
    state l s.e s.g s.p (stored (block_finite n j l) j (counted_at n j s.l s.progress))

-- the step after its first test, with the pivot and whether its search was tied
unfoldable pub step_at : Variant → Tolerances → Float → ℕ → ℕ → ℕ → Bool → Run → Run
unfolding pivot leaves_after factorize
step_at v t gamma n j max-idx tie s =
    let s₁ = pivot n j max-idx tie s in
    let next = factorize n j s₁ in
    cond (leaves_after v t gamma n j s₁.l) (leave j s₁) next

unfoldable pub phase_one_step : Variant → Tolerances → List ℕ → Float → ℕ → ℕ → Run → Run
unfolding leaves_before pick diagonal step_at
phase_one_step v t numbers gamma n j s =
    let f = pick numbers s.p false (diagonal n s.l) j in
    let next = step_at v t gamma n j f.index f.tied s in
    cond (leaves_before v t gamma n j s.l) (leave j s) next

-- nothing once phase one is left or the run refused
unfoldable pub in_phase_one : Variant → Tolerances → List ℕ → Float → ℕ → ℕ → Run → Run
unfolding phase_one_step
in_phase_one v t numbers gamma n j s =
    let next = phase_one_step v t numbers gamma n j s in
    cond (stopped s.progress) s next

unfoldable pub phase_one : Variant → Tolerances → List ℕ → Float → ℕ → Run → Run
unfolding range in_phase_one
phase_one v t numbers gamma n s = range 0 n (in_phase_one v t numbers gamma n) s

-- ---- phase two

-- l.slice(..).map(|x| x.abs()).sum(): the magnitudes at a to b - 1, in this order
unfoldable pub magnitude_sum : (ℕ → Float) → ℕ → ℕ → Float
unfolding range abs
magnitude_sum entry a b = range a b (λ t sum. sum ⊕ abs (entry t)) plus_zero

unfoldable pub row_sum : ℕ → List Float → ℕ → ℕ → ℕ → Float
unfolding magnitude_sum
row_sum n l i a b = magnitude_sum (λ t. at n l i t) a b

unfoldable pub column_sum : ℕ → List Float → ℕ → ℕ → ℕ → Float
unfolding magnitude_sum
column_sum n l i a b = magnitude_sum (λ t. at n l t i) a b

-- g[i] = l[(i, i)] - l.slice(s![i, k..i]) .. - l.slice(s![(i + 1).., i]) ..
unfoldable pub bounds : ℕ → ℕ → List Float → List Float → List Float
unfolding range row_sum column_sum
bounds n k l g = range k n (λ i h. set h i (at n l i i ⊖ row_sum n l i k i ⊖ column_sum n l i (i + 1) n)) g

-- tau * gamma in SE90, tau_bar * gamma in SE99
unfoldable pub least_amount : Variant → Tolerances → Float → Float
least_amount Se90 t gamma = t.tau ⊗ gamma
least_amount Se99 t gamma = t.tau_bar ⊗ gamma

-- 0.0.max(delta_prev).max(-l[(j, j)] + normj.max(..))
unfoldable pub amount : Variant → Tolerances → Float → Float → Float → Float → Float
unfolding least_amount neg
amount v t gamma delta-prev ljj normj = max (max plus_zero delta-prev) (neg ljj ⊕ max normj (least_amount v t gamma))

-- if e[j] > 0.0
abbrev pub added : Float → Float → Float
added x e = cond (lt plus_zero e) (x ⊕ e) x

-- if (l[(j, j)] - normj).abs() > 1.0 * EPSILON { let tmp = 1.0 - normj / l[(j, j)]; for i in (j + 1)..n { g[i] += l[(i, j)].abs() * tmp; } }
unfoldable pub update_bounds : ℕ → ℕ → List Float → Float → List Float → List Float
unfolding range abs lt
update_bounds n j l normj g =
    let tmp = one ⊖ normj ⊘ at n l j j in
    let next = range (j + 1) n (λ i h. set h i (get_or h i nan ⊕ abs (at n l i j) ⊗ tmp)) g in
    cond (lt (one ⊗ epsilon) (abs (at n l j j ⊖ normj))) next g

-- whether what a step of phase two stored is finite: normj, e[j], the sum on the diagonal, g after j, and rows and columns j to n - 1
abbrev pub step_stored : ℕ → ℕ → Float → Float → Float → List Float → List Float → Bool
step_stored n j normj ej sum g l = finite normj && finite ej && finite sum && all (j + 1) n (λ i. finite (get_or g i nan)) && block_finite n j l

-- the jth step of phase two with the pivot max_idx after j
unfoldable pub phase_two_step_at : Variant → Tolerances → Float → ℕ → ℕ → ℕ → Run → Run
unfolding pivot_matrix pivot_list column_sum amount update_bounds eliminate all block_finite inexact lt
phase_two_step_at v t gamma n j max-idx s =
    let l₁ = pivot_matrix n j max-idx s.l in
    let g₁ = pivot_list nan j max-idx s.g in
    let normj = column_sum n l₁ j (j + 1) n in
    let ej = amount v t gamma s.progress.delta_prev (at n l₁ j j) normj in
    let l₂ = put n l₁ j j (added (at n l₁ j j) ej) in
    let g₂ = update_bounds n j l₂ normj g₁ in
    let l₃ = eliminate n j l₂ in
    state l₃ (set s.e j ej) g₂ (pivot_list 0 j max-idx s.p) (stored (step_stored n j normj ej (at n l₂ j j) g₂ l₃) j (counted_at n j l₂ (kept ej s.progress)))

-- its two halves between the pivot and the end, as the code hands them on: the addition, from l to l', and the rest
pub record AmountAdded (v : Variant) (t : Tolerances) (gamma delta-prev : Float) (n j : ℕ) (l l' : List Float) (normj ej sum : Float) : Type 0 where
  pub normj_is : normj ≡ column_sum n l j (j + 1) n
  pub e_is : ej ≡ amount v t gamma delta-prev (at n l j j) normj
  pub sum_is : sum ≡ added (at n l j j) ej
  pub l_is : l' ≡ put n l j j sum

pub record AddedEliminated (n j : ℕ) (normj ej sum : Float) (l g l' g' : List Float) (r : Stores) : Type 0 where
  pub g_is : g' ≡ update_bounds n j l normj g
  pub l_is : l' ≡ eliminate n j l
  pub ok_is : r.ok ≡ step_stored n j normj ej sum g' l'
  pub inexact_is : r.inexact ≡ one_if (inexact (at n l j j))

-- index_of_largest(&g.slice(s![j..])); nothing once the run is refused
unfoldable pub phase_two_step : Variant → Tolerances → List ℕ → Float → ℕ → ℕ → Run → Run
unfolding pick phase_two_step_at
phase_two_step v t numbers gamma n j s =
    let next = phase_two_step_at v t gamma n j (pick numbers s.p false s.g j).index s in
    cond (marked s.progress.refused) s next

-- ---- the last block

-- SE90: -llo + tau * gamma.max(1.0 / (1.0 - tau) * (lhi - llo)); SE99: -llo + (tau_bar * gamma).max(tau * (lhi - llo) / (1.0 - tau))
unfoldable pub last_amount : Variant → Tolerances → Float → Eigen → Float
unfolding neg
last_amount Se90 t gamma x = neg x.lo ⊕ t.tau ⊗ max gamma (one ⊘ (one ⊖ t.tau) ⊗ (x.hi ⊖ x.lo))
last_amount Se99 t gamma x = neg x.lo ⊕ max (t.tau_bar ⊗ gamma) (t.tau ⊗ (x.hi ⊖ x.lo) ⊘ (one ⊖ t.tau))

-- two rows remain: two eigenvalues with a shared amount, e[n - 2] = 0.0.max(..).max(delta_prev)
unfoldable pub pair_of : Variant → Tolerances → Float → ℕ → List Float → Float → Last
unfolding eigenvalues_of last_amount
pair_of v t gamma n l delta-prev =
    let a = n - 2 in
    let b = n - 1 in
    let x = eigenvalues_of (at n l a a) (at n l a b) (at n l b a) (at n l b b) in
    Pair x (max (max plus_zero (last_amount v t gamma x)) delta-prev)

-- one row remains. SE99: e[j] = -l[(j, j)] + (tau_bar * gamma).max(tau * (-l[(j, j)]) / (1.0 - tau)); SE90 has tau in place of tau_bar (N6)
unfoldable pub one_of : Variant → Tolerances → Float → Float → Last
unfolding least_amount neg
one_of v t gamma ljj = One (neg ljj ⊕ max (least_amount v t gamma) (t.tau ⊗ neg ljj ⊘ (one ⊖ t.tau)))

-- the block of the last two rows is factorized, statement by statement
abbrev pub root_above : ℕ → List Float → List Float
root_above n l = put n l (n - 2) (n - 2) (sqrt (at n l (n - 2) (n - 2)))

abbrev pub quotient_below : ℕ → List Float → List Float
quotient_below n l = put n l (n - 1) (n - 2) (at n l (n - 1) (n - 2) ⊘ at n l (n - 2) (n - 2))

abbrev pub operand_below : ℕ → List Float → Float
operand_below n l = at n l (n - 1) (n - 1) ⊖ square (at n l (n - 1) (n - 2))

abbrev pub root_below : ℕ → List Float → List Float
root_below n l = put n l (n - 1) (n - 1) (sqrt (operand_below n l))

-- how many of its two roots are inexact: of the first in l, and of the second after the quotient, in l'
abbrev pub inexact_pair : ℕ → List Float → List Float → ℕ
inexact_pair n l l' = one_if (inexact (at n l (n - 2) (n - 2))) + one_if (inexact (operand_below n l'))

-- .. as the code hands it on, from l to l'
pub record PairFactorized (n : ℕ) (l l' : List Float) (r : Stores) : Type 0 where
  pub l_is : l' ≡ root_below n (quotient_below n (root_above n l))
  pub inexact_is : r.inexact ≡ inexact_pair n l (quotient_below n (root_above n l))
  pub ok_is : r.ok ≡ (finite (at n (root_above n l) (n - 2) (n - 2)) && finite (at n (quotient_below n (root_above n l)) (n - 1) (n - 2)) && finite (at n l' (n - 1) (n - 1)))

-- the pair's amount is added to both rows, and the block is factorized: step n - 2
unfoldable pub add_pair : ℕ → Eigen → Float → Run → Run
unfolding lt sqrt inexact
add_pair n x ea s =
    let a = n - 2 in
    let b = n - 1 in
    let l₁ = put n s.l a a (added (at n s.l a a) ea) in
    let l₂ = put n l₁ b b (added (at n l₁ b b) ea) in
    let l₃ = root_above n l₂ in
    let l₄ = quotient_below n l₃ in
    let l₅ = root_below n l₄ in
    let ok = finite x.hi && finite x.lo && finite ea && finite (at n l₂ a a) && finite (at n l₂ b b) && finite (at n l₃ a a) && finite (at n l₄ b a) && finite (at n l₅ b b) in
    state l₅ (set (set s.e a ea) b ea) s.g s.p (stored ok a (counted (inexact_pair n l₂ l₄) s.progress))

-- the one amount is added to the last row, and its root taken: step n - 1
unfoldable pub add_one : ℕ → Float → Run → Run
unfolding sqrt inexact
add_one n ej s =
    let j = n - 1 in
    let l₁ = put n s.l j j (at n s.l j j ⊕ ej) in
    let l₂ = put n l₁ j j (sqrt (at n l₁ j j)) in
    let ok = finite ej && finite (at n l₁ j j) && finite (at n l₂ j j) in
    state l₂ (set s.e j ej) s.g s.p (stored ok j (counted_at n j l₁ s.progress))

-- what phase two adds last, by its cases
abbrev pub add_last : ℕ → Last → Run → Run
add_last n (One ej) s = add_one n ej s
add_last n (Pair x ea) s = add_pair n x ea s

-- how many rows it needs
abbrev pub rows_of : Last → ℕ
rows_of (One ej) = 1
rows_of (Pair x ea) = 2

unfoldable pub last_pair : Variant → Tolerances → Float → ℕ → Run → Run
unfolding pair_of add_pair
last_pair v t gamma n s = add_last n (pair_of v t gamma n s.l s.progress.delta_prev) s

unfoldable pub last_one : Variant → Tolerances → Float → ℕ → Run → Run
unfolding one_of add_one
last_one v t gamma n s = add_last n (one_of v t gamma (at n s.l (n - 1) (n - 1))) s

-- phase two from step k: g counts as step k
unfoldable pub begin : ℕ → ℕ → Run → Run
unfolding bounds all
begin n k s =
    let g = bounds n k s.l s.g in
    state s.l s.e g s.p (stored (all k n (λ i. finite (get_or g i nan))) k s.progress)

unfoldable pub pairs : Variant → Tolerances → List ℕ → Float → ℕ → ℕ → Run → Run
unfolding range begin phase_two_step last_pair
pairs v t numbers gamma n k s =
    let s₁ = range k (n - 2) (phase_two_step v t numbers gamma n) (begin n k s) in
    let next = last_pair v t gamma n s₁ in
    cond (marked s₁.progress.refused) s₁ next

-- one row is left where phase one is left at n - 1
unfoldable pub phase_two_from : Variant → Tolerances → List ℕ → Float → ℕ → ℕ → Run → Run
unfolding pairs last_one
phase_two_from v t numbers gamma n k s =
    let one_left = last_one v t gamma n s in
    let more = pairs v t numbers gamma n k s in
    cond (eqb k (n - 1)) one_left more

unfoldable pub phase_two_after : Variant → Tolerances → List ℕ → Float → ℕ → Mark → Run → Run
unfolding phase_two_from
phase_two_after v t numbers gamma n None s = s
phase_two_after v t numbers gamma n (Some k) s = phase_two_from v t numbers gamma n k s

abbrev pub phase_two : Variant → Tolerances → List ℕ → Float → ℕ → Run → Run
phase_two v t numbers gamma n s = phase_two_after v t numbers gamma n s.progress.phase2 s

-- ---- a whole run
unfoldable pub run : Variant → Tolerances → List ℕ → ℕ → List Float → Run
unfolding start phase_one phase_two_after diagonal_max
run v t numbers n a = let gamma = diagonal_max n a in phase_two v t numbers gamma n (phase_one v t numbers gamma n (start n a))

unfoldable pub mod_cholesky_se : Variant → Tolerances → List ℕ → ℕ → List Float → Result
unfolding run lower_triangle reorder
mod_cholesky_se v t numbers n a =
    let s = run v t numbers n a in
    hand_back n s.progress (lower_triangle n s.l) (reorder n s.p s.e) s.p
