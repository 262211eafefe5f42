-- Statements that the methods share, each beside the Rust it stands for.
use Rattle.std.specs.Prelude.{List, Bool, cond, ◌&&◌, ℕ, ◌+◌, ◌-◌, length, get_or, set, drop, eqb, ltb, Float}
use Rattle.std.specs.Float.{nan}
use Rattle.std.specs.Float.Ieee.{lt, eq}
use Rattle.std.specs.Float.Ieee.Scale.{finite}
use Rattle.arithmetic.specs.All.{all}
use Rattle.arithmetic.specs.Double.{plus_zero, ◌⊖◌, ◌⊗◌, ◌⊘◌, abs}
use Rattle.arithmetic.specs.Loop.{range}
use Rattle.arithmetic.specs.Sqrt.{sqrt}
use Rattle.matrix.specs.Matrix.{at, put}
use Rattle.matrix.specs.Search.{key, largest}
use Rattle.matrix.specs.Table.{table}
use Rattle.matrix.specs.Swap.{swap, swap_rows, swap_columns}
use Rattle.matrix.specs.declared.utils.Found.{Found}

-- ---- folds

-- |acc, x| if x.abs() > acc { x.abs() } else { acc }
unfoldable pub larger_magnitude : Float → Float → Float
unfolding lt abs
larger_magnitude acc x = cond (lt acc (abs x)) (abs x) acc

-- m.diag().fold(0.0, ..)
unfoldable pub fold_diagonal : ℕ → List Float → ℕ → Float → Float
unfolding larger_magnitude
fold_diagonal n m i acc = larger_magnitude acc (at n m i i)

unfoldable pub diagonal_max : ℕ → List Float → Float
unfolding range fold_diagonal
diagonal_max n m = range 0 n (fold_diagonal n m) plus_zero

-- m.diag()
unfoldable pub diagonal : ℕ → List Float → List Float
unfolding table
diagonal n m = table n (λ i. at n m i i)

-- ---- the pivot search of all three methods and of both phases

-- the number of the contract at position t: numbers has one for each row of the matrix loaded, and p[t] is the row that stands there
abbrev pub number_at : List ℕ → List ℕ → ℕ → ℕ
number_at numbers p t = get_or numbers (get_or p t 0) 0

-- candidates u and i are equal: +0.0 and -0.0 are
abbrev pub tied_with : Bool → List Float → ℕ → ℕ → Bool
tied_with magnitude c u i = eq (key magnitude (get_or c u nan)) (key magnitude (get_or c i nan))

-- one candidate more: it is taken where it is tied too and its number is smaller
abbrev pub look_number : (ℕ → Bool) → (ℕ → ℕ) → ℕ → ℕ → ℕ
look_number tied number i best = cond (tied i && ltb (number i) (number best)) i best

-- document 02's tie rule: of the candidates tied with the first of the largest, the one with the smallest number
unfoldable pub smallest_number : (ℕ → ℕ) → Bool → List Float → ℕ → ℕ
unfolding range key eq
smallest_number number magnitude c first = range 0 (length c) (look_number (tied_with magnitude c first) number) first

-- index_of_largest(&values.slice(s![j..])), by magnitude in GMW81: the first of the largest where contracts have no numbers (an empty
-- list), else the one with the smallest number
unfoldable pub pick : List ℕ → List ℕ → Bool → List Float → ℕ → Found
unfolding largest smallest_number
pick numbers p magnitude values j =
    let c = drop j values in
    let f = largest magnitude c in
    let smallest = smallest_number (λ i. number_at numbers p (j + i)) magnitude c f.index in
    record { index = cond (eqb (length numbers) 0) f.index smallest; tied = f.tied }

-- ---- pivots: nothing where max_idx is 0

-- swap_rows(m, j, j + max_idx); swap_columns(m, j, j + max_idx);
unfoldable pub pivot_matrix : ℕ → ℕ → ℕ → List Float → List Float
unfolding swap_rows swap_columns
pivot_matrix n j max-idx m = cond (eqb max-idx 0) m (swap_columns nan n (swap_rows nan n m j (j + max-idx)) j (j + max-idx))

-- p.swap(j, j + max_idx), and g.swap(j, j + max_idx)
unfoldable pub pivot_list : {A : Type 0} → A → ℕ → ℕ → List A → List A
pivot_list d j max-idx l = cond (eqb max-idx 0) l (swap d l j (j + max-idx))

-- ---- the jth iteration of the factorization in SE90 and SE99

-- l[(i, k)] -= l[(i, j)] * l[(k, j)]; l[(k, i)] = l[(i, k)];
unfoldable pub eliminate_entry : ℕ → ℕ → ℕ → ℕ → List Float → List Float
eliminate_entry n j i k l =
    let l' = put n l i k (at n l i k ⊖ at n l i j ⊗ at n l k j) in
    put n l' k i (at n l' i k)

-- l[(i, j)] /= l[(j, j)]; l[(j, i)] /= l[(j, j)];
unfoldable pub divide_entries : ℕ → ℕ → ℕ → List Float → List Float
divide_entries n j i l =
    let l' = put n l i j (at n l i j ⊘ at n l j j) in
    put n l' j i (at n l' j i ⊘ at n l' j j)

-- .. for k in (j + 1)..=i
unfoldable pub eliminate_row : ℕ → ℕ → ℕ → List Float → List Float
unfolding range eliminate_entry divide_entries
eliminate_row n j i l = range (j + 1) (i + 1) (eliminate_entry n j i) (divide_entries n j i l)

-- l[(j, j)] = l[(j, j)].sqrt(); for i in (j + 1)..n
unfoldable pub eliminate : ℕ → ℕ → List Float → List Float
unfolding range eliminate_row sqrt
eliminate n j l = range (j + 1) n (eliminate_row n j) (put n l j j (sqrt (at n l j j)))

-- ---- at the end

-- l.slice_mut(s![i, (i + 1)..]).fill(0.0)
unfoldable pub clear_after : ℕ → ℕ → List Float → List Float
unfolding range
clear_after n i l = range (i + 1) n (λ k m. put n m i k plus_zero) l

-- for i in 0..(n - 1)
unfoldable pub lower_triangle : ℕ → List Float → List Float
unfolding range clear_after
lower_triangle n l = range 0 (n - 1) (clear_after n) l

-- let ec = e.clone(); for i in 0..n { e[p[i]] = ec[i]; }
unfoldable pub reorder : ℕ → List ℕ → List Float → List Float
unfolding range
reorder n p ec = range 0 n (λ i e. set e (get_or p i 0) (get_or ec i nan)) ec

-- ---- whether stored values are finite
-- rows and columns j to n - 1
unfoldable pub block_finite : ℕ → ℕ → List Float → Bool
unfolding all
block_finite n j l = all j n (λ i. all j n (λ k. finite (at n l i k)))
