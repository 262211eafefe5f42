-- The checks that calls share, each with its refusal and place (document 01, 'Refusals, in checking order'; 12 to 14 are document 02's).
use Rattle.std.specs.Prelude.{List, ◌≡◌, Bool, true, not, ◌||◌, ◌&&◌, ℕ, ◌+◌, ◌-◌, ◌*◌, ◌/◌, ◌%◌, ◌<◌, length, get_or, eqb, leb, ltb, Float}
use Rattle.std.specs.Float.{nan, binary64}
use Rattle.std.specs.Float.Ieee.{to_bits}
use Rattle.std.specs.Float.Ieee.Scale.{finite}
use Rattle.arithmetic.specs.First.{first, first_from}
use Rattle.arithmetic.specs.Outcome.{refuse}
use Rattle.arithmetic.specs.Outcome.{Outcome}
use Rattle.arithmetic.specs.declared.refusal.Refusal.TheVariants.{SizeOutOfRange, MatrixLength, BufferLength, IndexOutOfRange, NotFinite, Unsymmetric, NumbersLength, NumberRepeated, ListLength}
use Rattle.matrix.specs.Matrix.{at}

-- 3: n of 0 or above 48
abbrev pub check_size : ℕ → Outcome
check_size n = refuse (eqb n 0 || ltb 48 n) SizeOutOfRange

-- 3: a search over nothing
abbrev pub check_some : ℕ → Outcome
check_some len = refuse (eqb len 0) SizeOutOfRange

-- 4
abbrev pub check_matrix : ℕ → ℕ → Outcome
check_matrix n len = refuse (not (eqb len (n * n))) MatrixLength

-- 5
abbrev pub check_buffer : ℕ → ℕ → Outcome
check_buffer wanted len = refuse (not (eqb len wanted)) BufferLength

-- 6: one index, by its position among those given
abbrev pub check_index : ℕ → ℕ → ℕ → Outcome
check_index n position index = refuse (leb n index) (IndexOutOfRange position)

-- 6: the first of a list of indices
abbrev pub out_of_range : ℕ → List ℕ → ℕ → Bool
out_of_range n idxs k = leb n (get_or idxs k 0)

abbrev pub check_indices : ℕ → List ℕ → Outcome
check_indices n idxs = refuse (ltb (first (out_of_range n idxs) (length idxs)) (length idxs)) (IndexOutOfRange (first (out_of_range n idxs) (length idxs)))

-- 7: the first entry, in row order, of rows of n; a list has rows of one
abbrev pub not_finite : List Float → ℕ → Bool
not_finite m k = not (finite (get_or m k nan))

abbrev pub first_not_finite : List Float → ℕ
first_not_finite m = first (not_finite m) (length m)

abbrev pub check_finite : ℕ → List Float → Outcome
check_finite n m = refuse (ltb (first_not_finite m) (length m)) (NotFinite (first_not_finite m / n) (first_not_finite m % n))

-- 8: the first position in row order whose row is less than its column and whose mirror has other bits
abbrev pub same_bits : Float → Float → Bool
same_bits x y = eqb (to_bits binary64 x) (to_bits binary64 y)

abbrev pub unsymmetric : ℕ → List Float → ℕ → Bool
unsymmetric n m k = ltb (k / n) (k % n) && not (same_bits (at n m (k / n) (k % n)) (at n m (k % n) (k / n)))

-- the first column after i at which row i has other bits than column i; n where there is none
unfoldable pub first_mismatch : ℕ → List Float → ℕ → ℕ
first_mismatch n m i = first_from (λ j. not (same_bits (at n m i j) (at n m j i))) (i + 1) (n - (i + 1))

abbrev pub first_unsymmetric : ℕ → List Float → ℕ
first_unsymmetric n m = first (unsymmetric n m) (n * n)

abbrev pub check_symmetric : ℕ → List Float → Outcome
check_symmetric n m = refuse (ltb (first_unsymmetric n m) (n * n)) (Unsymmetric (first_unsymmetric n m / n) (first_unsymmetric n m % n))

-- 12: a number for each of n contracts
abbrev pub check_numbers : ℕ → ℕ → Outcome
check_numbers n len = refuse (not (eqb len n)) NumbersLength

-- the first position before k with the number at k; k where there is none
abbrev pub first_same : List ℕ → ℕ → ℕ
first_same numbers k = first (λ i. eqb (get_or numbers i 0) (get_or numbers k 0)) k

abbrev pub came_before : List ℕ → ℕ → Bool
came_before numbers k = ltb (first_same numbers k) k

-- 13: the first position whose number came before
abbrev pub first_repeated : List ℕ → ℕ
first_repeated numbers = first (came_before numbers) (length numbers)

abbrev pub check_distinct : List ℕ → Outcome
check_distinct numbers = refuse (ltb (first_repeated numbers) (length numbers)) (NumberRepeated (first_repeated numbers))

-- 14: a list of n
abbrev pub check_list : ℕ → ℕ → Outcome
check_list wanted len = refuse (not (eqb len wanted)) ListLength

-- no two numbers are equal
pub record Distinct (numbers : List ℕ) : Type 0 where
  pub once : (i k : ℕ) → i < length numbers → k < length numbers → get_or numbers i 0 ≡ get_or numbers k 0 → i ≡ k

-- every entry is finite
abbrev pub AllFinite : ℕ → List Float → Type 0
AllFinite n m = (i j : ℕ) → i < n → j < n → finite (at n m i j) ≡ true
