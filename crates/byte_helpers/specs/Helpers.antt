-- What the helpers on bytes answer: doubles are eight bytes, low byte first, indices one byte each.
use Rattle.std.specs.Prelude.{List, [], Bool, cond, ℕ, ◌*◌, ◌/◌, length, Result}
use Rattle.arithmetic.specs.Outcome.{Outcome, complete, ◌then◌, answer}
use Rattle.arithmetic.specs.declared.refusal.Refusal.{Refusal}
use Rattle.matrix.specs.Matrix.{zeros}
use Rattle.matrix.specs.Swap.{swap_rows, swap_columns}
use Rattle.matrix.specs.Search.{largest}
use Rattle.matrix.specs.Plain.{index_to_permutation_mat, diag_mat_from_arr}
use Rattle.matrix.specs.Checks.{check_size, check_some, check_buffer, check_index, check_indices, check_finite}
use Rattle.matrix.specs.Calls.{MatrixCall, matrix_call}
use Rattle.circles.specs.Circles.{CirclesCall, gershgorin_circles}
use Rattle.encoding.specs.Bytes.{doubles, double_bytes}
use Rattle.encoding.specs.Elements.{elements, joined}
use Rattle.encoding.specs.Checks.{check_whole, check_entries}

-- ---- searches: 3, 4, 7
abbrev pub search_byte_checks : List ℕ → Outcome
search_byte_checks c = check_some (length c) then check_whole (length c) then check_finite 1 (doubles c)

abbrev pub search_bytes_call : Bool → List ℕ → Result ℕ Refusal
search_bytes_call magnitude c = answer (search_byte_checks c) (largest magnitude (doubles c)).index

-- ---- swaps: 3, 4, 6. The elements that move are eight bytes each, whatever double they are.
abbrev pub swap_byte_checks : ℕ → ℕ → ℕ → ℕ → Outcome
swap_byte_checks n len idx1 idx2 = check_size n then check_entries n len then check_index n 0 idx1 then check_index n 1 idx2

unfoldable pub swap_rows_bytes : ℕ → List ℕ → ℕ → ℕ → List ℕ
unfolding swap_rows elements joined
swap_rows_bytes n mat idx1 idx2 = joined (swap_rows [] n (elements mat) idx1 idx2)

unfoldable pub swap_columns_bytes : ℕ → List ℕ → ℕ → ℕ → List ℕ
unfolding swap_columns elements joined
swap_columns_bytes n mat idx1 idx2 = joined (swap_columns [] n (elements mat) idx1 idx2)

abbrev pub swap_rows_bytes_call : ℕ → List ℕ → ℕ → ℕ → MatrixCall ℕ
swap_rows_bytes_call n mat idx1 idx2 = matrix_call (swap_byte_checks n (length mat) idx1 idx2) (swap_rows_bytes n mat idx1 idx2) mat

abbrev pub swap_columns_bytes_call : ℕ → List ℕ → ℕ → ℕ → MatrixCall ℕ
swap_columns_bytes_call n mat idx1 idx2 = matrix_call (swap_byte_checks n (length mat) idx1 idx2) (swap_columns_bytes n mat idx1 idx2) mat

-- ---- permutation matrix: 3, 5, 6
abbrev pub permutation_byte_checks : List ℕ → ℕ → Outcome
permutation_byte_checks idxs len = let n = length idxs in check_size n then check_buffer (8 * (n * n)) len then check_indices n idxs

abbrev pub index_to_permutation_mat_bytes_call : List ℕ → List ℕ → MatrixCall ℕ
index_to_permutation_mat_bytes_call idxs mat = matrix_call (permutation_byte_checks idxs (length mat)) (double_bytes (index_to_permutation_mat idxs)) mat

-- ---- diagonal matrix: 3, 4, 5, 7
abbrev pub diagonal_byte_checks : List ℕ → ℕ → Outcome
diagonal_byte_checks arr len = let n = length arr / 8 in check_size n then check_whole (length arr) then check_buffer (8 * (n * n)) len then check_finite 1 (doubles arr)

abbrev pub diag_mat_from_arr_bytes_call : List ℕ → List ℕ → MatrixCall ℕ
diag_mat_from_arr_bytes_call arr mat = matrix_call (diagonal_byte_checks arr (length mat)) (double_bytes (diag_mat_from_arr (doubles arr))) mat

-- ---- circles: 3, 4, 5, 7, and 9
pub record CirclesBytesCall : Type 0 where
  pub outcome : Outcome
  pub centres : List ℕ
  pub radii : List ℕ

abbrev pub circles_bytes_call : Outcome → List ℕ → List ℕ → CirclesBytesCall
circles_bytes_call outcome centres radii = record { outcome = outcome; centres = centres; radii = radii }

abbrev pub circle_byte_checks : ℕ → List ℕ → ℕ → ℕ → Outcome
circle_byte_checks n mat centres radii = check_size n then check_entries n (length mat) then check_buffer (8 * n) centres then check_buffer (8 * n) radii then check_finite n (doubles mat)

-- both lists are written in full, so what stood there has no part in it
abbrev pub circles_of : ℕ → List ℕ → CirclesCall
circles_of n mat = gershgorin_circles n (doubles mat) (zeros n) (zeros n)

abbrev pub gershgorin_circles_bytes_call : ℕ → List ℕ → List ℕ → List ℕ → CirclesBytesCall
gershgorin_circles_bytes_call n mat centres radii =
    let checks = circle_byte_checks n mat (length centres) (length radii) in
    let circles = circles_of n mat in
    cond (complete checks) (circles_bytes_call circles.outcome (double_bytes circles.centres) (double_bytes circles.radii)) (circles_bytes_call checks centres radii)
