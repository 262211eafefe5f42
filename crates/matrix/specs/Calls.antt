-- What each call answers, on accepted and refused operands: what it hands back or its refusal, and every buffer it was lent.
use Rattle.std.specs.Prelude.{List, [], ◌∷◌, Bool, cond, not, ◌&&◌, ℕ, ◌*◌, length, Float, Result}
use Rattle.std.specs.Float.{nan}
use Rattle.std.specs.Float.Ieee.Scale.{finite}
use Rattle.arithmetic.specs.Double.{plus_zero}
use Rattle.arithmetic.specs.Outcome.{Outcome, complete, refuse, ◌then◌, answer}
use Rattle.arithmetic.specs.declared.refusal.Refusal.{Refusal}
use Rattle.arithmetic.specs.declared.refusal.Refusal.TheVariants.{StoredNotFinite}
use Rattle.matrix.specs.Swap.{swap_rows, swap_columns}
use Rattle.matrix.specs.Search.{largest}
use Rattle.matrix.specs.Eigenvalues.{entry, eigenvalues_2x2}
use Rattle.matrix.specs.Plain.{index_to_permutation_mat, diag_mat_from_arr}
use Rattle.matrix.specs.Checks.{check_size, check_some, check_matrix, check_buffer, check_index, check_indices, check_finite}
use Rattle.matrix.specs.declared.utils.Eigen.{Eigen}

-- a call that is lent one matrix: untouched where the call is refused
pub record MatrixCall (A : Type 0) : Type 0 where
  pub outcome : Outcome
  pub mat : List A

abbrev pub matrix_call : {A : Type 0} → Outcome → List A → List A → MatrixCall A
matrix_call outcome new old = record { outcome = outcome; mat = cond (complete outcome) new old }

-- ---- swaps: 3, 4, 6
abbrev pub swap_checks : ℕ → ℕ → ℕ → ℕ → Outcome
swap_checks n len idx1 idx2 = check_size n then check_matrix n len then check_index n 0 idx1 then check_index n 1 idx2

abbrev pub swap_rows_call : ℕ → List Float → ℕ → ℕ → MatrixCall Float
swap_rows_call n mat idx1 idx2 = matrix_call (swap_checks n (length mat) idx1 idx2) (swap_rows nan n mat idx1 idx2) mat

abbrev pub swap_columns_call : ℕ → List Float → ℕ → ℕ → MatrixCall Float
swap_columns_call n mat idx1 idx2 = matrix_call (swap_checks n (length mat) idx1 idx2) (swap_columns nan n mat idx1 idx2) mat

-- ---- searches: 3, 7
abbrev pub search_checks : List Float → Outcome
search_checks c = check_some (length c) then check_finite 1 c

abbrev pub search_call : Bool → List Float → Result ℕ Refusal
search_call magnitude c = answer (search_checks c) (largest magnitude c).index

-- ---- eigenvalues: 7, 9
abbrev pub block_list : List (List Float) → List Float
block_list mat = entry mat 0 0 ∷ entry mat 0 1 ∷ entry mat 1 0 ∷ entry mat 1 1 ∷ []

abbrev pub both_finite : Eigen → Bool
both_finite e = finite e.hi && finite e.lo

abbrev pub check_eigen : Eigen → Outcome
check_eigen e = refuse (not (both_finite e)) (StoredNotFinite 0)

abbrev pub eigen_checks : List (List Float) → Eigen → Outcome
eigen_checks mat e = check_finite 2 (block_list mat) then check_eigen e

abbrev pub eigenvalues_2x2_call : List (List Float) → Result Eigen Refusal
eigenvalues_2x2_call mat = let e = eigenvalues_2x2 mat in answer (eigen_checks mat e) e

-- what the exported call hands back beside a refusal
abbrev pub no_eigen : Eigen
no_eigen = record { hi = plus_zero; lo = plus_zero }

-- ---- permutation matrix: 3, 5, 6
abbrev pub permutation_checks : List ℕ → ℕ → Outcome
permutation_checks idxs len = check_size (length idxs) then check_buffer (length idxs * length idxs) len then check_indices (length idxs) idxs

abbrev pub index_to_permutation_mat_call : List ℕ → List Float → MatrixCall Float
index_to_permutation_mat_call idxs mat = matrix_call (permutation_checks idxs (length mat)) (index_to_permutation_mat idxs) mat

-- ---- diagonal matrix: 3, 5, 7
abbrev pub diagonal_checks : List Float → ℕ → Outcome
diagonal_checks arr len = check_size (length arr) then check_buffer (length arr * length arr) len then check_finite 1 arr

abbrev pub diag_mat_from_arr_call : List Float → List Float → MatrixCall Float
diag_mat_from_arr_call arr mat = matrix_call (diagonal_checks arr (length mat)) (diag_mat_from_arr arr) mat
