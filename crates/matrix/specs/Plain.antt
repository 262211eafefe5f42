-- src/utils.rs: index_to_permutation_mat and diag_mat_from_arr.
use Rattle.std.specs.Prelude.{List, ℕ, ◌*◌, ◌<◌, length, get_or, Float}
use Rattle.std.specs.Float.{nan}
use Rattle.arithmetic.specs.Double.{one}
use Rattle.arithmetic.specs.Loop.{range}
use Rattle.matrix.specs.Matrix.{put, zeros}

-- every index is below n
abbrev pub AllBelow : ℕ → List ℕ → Type 0
AllBelow n idxs = (k : ℕ) → k < length idxs → get_or idxs k 0 < n

-- mat[(i, idxs[i])] = 1.0
unfoldable pub put_one : List ℕ → ℕ → List Float → List Float
put_one idxs i mat = put (length idxs) mat i (get_or idxs i 0) one

unfoldable pub index_to_permutation_mat : List ℕ → List Float
unfolding range put_one
index_to_permutation_mat idxs = range 0 (length idxs) (put_one idxs) (zeros (length idxs * length idxs))

-- mat[(i, i)] = arr[i]
unfoldable pub put_diagonal : List Float → ℕ → List Float → List Float
put_diagonal arr i mat = put (length arr) mat i i (get_or arr i nan)

unfoldable pub diag_mat_from_arr : List Float → List Float
unfolding range put_diagonal
diag_mat_from_arr arr = range 0 (length arr) (put_diagonal arr) (zeros (length arr * length arr))
