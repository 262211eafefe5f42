-- Lists of doubles: kept by every statement of SE90 and SE99. What an operation gives is a double whatever its operands are.
use mathlib.Core.Path.{◌≡◌, refl, subst}
use mathlib.Core.Bool.{◌||◌}
use mathlib.Core.List.{List, [], ◌∷◌}
use Prim.Native.Nat.{ℕ, zero, suc, ◌+◌, ◌-◌, ◌*◌, ◌/◌, ◌%◌, ◌<◌}
use native.Mathlib.Nat.{div-add-mod', div-lt_iff_lt-mul, mod-lt}
use native.Mathlib.Decide.{dec_lt}
use native.Mathlib.Omega.{arith}
use lib.Dec.{T, eqb}
use lib.ListN.{get_or, set, get_or-eq_default}
use lib.Ieee.{Float, nan, binary64, fits, lt, is_nan}
use lib.Ieee.Bits.{of_bits-fits}
use lib.Ieee.Fits.{cond-fits, nan-fits, add-fits, sub-fits, div-fits}
use Rattle.arithmetic.specs.Double.{plus_zero, ◌⊕◌, ◌⊖◌, ◌⊗◌, ◌⊘◌, max}
use Rattle.arithmetic.specs.Loop.{times, range}
use Rattle.arithmetic.specs.Sqrt.{sqrt}
use Rattle.arithmetic.proofs.Nearest.{sqrt-fits}
use Rattle.matrix.specs.Matrix.{at, put, zeros}
use Rattle.matrix.specs.Swap.{swap, swap_in_rows, swap_in_columns, swap_rows, swap_columns}
use Rattle.matrix.specs.Table.{table}
use Rattle.methods.specs.AcceptedMatrix.{AcceptedMatrix}
use Rattle.methods.specs.Result.{filled}
use Rattle.methods.specs.Statements.{pivot_matrix, eliminate_entry, divide_entries, eliminate_row, eliminate, clear_after, lower_triangle, reorder}
use Rattle.methods.specs.Marks.{Mark}
use Rattle.std.specs.Prelude.{None, Some}
use Rattle.methods.proofs.SeLaws.{cond_keeps}
use Rattle.arithmetic.specs.DoubleList.{AllDoubles}

abbrev pub IsDouble : Float → Type 0
IsDouble x = T (fits binary64 x)

-- at every position, also beyond the end, where NaN is read
pub record EachDouble (xs : List Float) : Type 0 where
  pub each : (k : ℕ) → IsDouble (get_or xs k nan)

pub each_all : (xs : List Float) → EachDouble xs → AllDoubles xs
each_all xs D k h = D.each k

pub zero_double : IsDouble plus_zero
zero_double = of_bits-fits binary64 0

pub max-double : (x y : Float) → IsDouble x → IsDouble y → IsDouble (max x y)
max-double x y p q = cond-fits binary64 (lt x y || is_nan x) y x q p

-- ---- lists
set_at : (xs : List Float) (i : ℕ) (v : Float) (k : ℕ) → IsDouble v → IsDouble (get_or xs k nan) → IsDouble (get_or (set xs i v) k nan)
set_at [] i v k p q = q
set_at (x ∷ xs) zero v zero p q = p
set_at (x ∷ xs) zero v (suc k) p q = q
set_at (x ∷ xs) (suc i) v zero p q = q
set_at (x ∷ xs) (suc i) v (suc k) p q = set_at xs i v k p q

pub set-doubles : (xs : List Float) (i : ℕ) (v : Float) → IsDouble v → EachDouble xs → EachDouble (set xs i v)
set-doubles xs i v p D = record { each = λ k. set_at xs i v k p (D.each k) }

table_at : (n : ℕ) (f : ℕ → Float) (k : ℕ) → ((i : ℕ) → IsDouble (f i)) → IsDouble (get_or (table n f) k nan)
unfolding table
table_at zero f k h = nan-fits binary64
table_at (suc n) f zero h = h 0
table_at (suc n) f (suc k) h = table_at n (λ i. f (suc i)) k (λ i. h (suc i))

pub table-doubles : (n : ℕ) (f : ℕ → Float) → ((i : ℕ) → IsDouble (f i)) → EachDouble (table n f)
table-doubles n f h = record { each = λ k. table_at n f k h }

zeros-at : (n k : ℕ) → IsDouble (get_or (zeros n) k nan)
zeros-at zero k = nan-fits binary64
zeros-at (suc n) zero = zero_double
zeros-at (suc n) (suc k) = zeros-at n k

pub zeros-doubles : (n : ℕ) → EachDouble (zeros n)
zeros-doubles n = record { each = zeros-at n }

pub accepted_doubles : (n : ℕ) (a : List Float) → 0 < n → AcceptedMatrix n a → EachDouble a
accepted_doubles n a some A = record {
  each = λ k. elim (dec_lt k (n * n)) [
    | yes p ↦ subst (λ (x : ℕ). IsDouble (get_or a x nan)) (div-add-mod' k n) (A.doubles (k / n) (k % n) ((div-lt_iff_lt-mul some).1 p) (mod-lt k some))
    | no p ↦ rw (get_or-eq_default a nan {n = k} (omega (arith, A.entries))) (nan-fits binary64)
  ];
}

-- ---- what each turn of a loop keeps, the loop keeps
times-keeps : {S : Type 0} (P : S → Type 0) (k : ℕ) (body : ℕ → S → S) (s : S) → ((i : ℕ) (t : S) → P t → P (body i t)) → P s → P (times k body s)
unfolding times
times-keeps P zero body s h p = p
times-keeps P (suc k) body s h p = h k (times k body s) (times-keeps P k body s h p)

pub range-keeps : {S : Type 0} (P : S → Type 0) (a b : ℕ) (body : ℕ → S → S) (s : S) → ((i : ℕ) (t : S) → P t → P (body i t)) → P s → P (range a b body s)
unfolding range
range-keeps P a b body s h p = times-keeps P (b - a) (λ k. body (a + k)) s (λ i t q. h (a + i) t q) p

-- a sum from +0.0
pub sum-double : (a b : ℕ) (f : ℕ → Float) → IsDouble (range a b (λ t sum. sum ⊕ f t) plus_zero)
sum-double a b f = range-keeps IsDouble a b (λ t sum. sum ⊕ f t) plus_zero (λ i x p. add-fits binary64 x (f i)) zero_double

-- ---- the pivots
swap-doubles : (xs : List Float) (x y : ℕ) → EachDouble xs → EachDouble (swap nan xs x y)
swap-doubles xs x y D = set-doubles (set xs x (get_or xs y nan)) y (get_or xs x nan) (D.each x) (set-doubles xs x (get_or xs y nan) (D.each y) D)

rows-doubles : (n : ℕ) (m : List Float) (i k : ℕ) → EachDouble m → EachDouble (swap_rows nan n m i k)
unfolding swap_rows swap_in_rows
rows-doubles n m i k D = range-keeps EachDouble 0 n (swap_in_rows nan n i k) m (λ t x E. swap-doubles x (i * n + t) (k * n + t) E) D

columns_doubles : (n : ℕ) (m : List Float) (i k : ℕ) → EachDouble m → EachDouble (swap_columns nan n m i k)
unfolding swap_columns swap_in_columns
columns_doubles n m i k D = range-keeps EachDouble 0 n (swap_in_columns nan n i k) m (λ t x E. swap-doubles x (t * n + i) (t * n + k) E) D

pub pivot-doubles : (n j k : ℕ) (m : List Float) → EachDouble m → EachDouble (pivot_matrix n j k m)
unfolding pivot_matrix
pivot-doubles n j k m D = cond_keeps EachDouble (eqb k 0) _ _ D (columns_doubles n (swap_rows nan n m j (j + k)) j (j + k) (rows-doubles n m j (j + k) D))

-- ---- the jth iteration of the factorization
pub put-doubles : (n : ℕ) (m : List Float) (i k : ℕ) (v : Float) → IsDouble v → EachDouble m → EachDouble (put n m i k v)
put-doubles n m i k v p D = set-doubles m (i * n + k) v p D

entry-doubles : (n j i k : ℕ) (m : List Float) → EachDouble m → EachDouble (eliminate_entry n j i k m)
unfolding eliminate_entry
entry-doubles n j i k m D =
    let v = at n m i k ⊖ at n m i j ⊗ at n m k j in
    let E = put-doubles n m i k v (sub-fits binary64 (at n m i k) (at n m i j ⊗ at n m k j)) D in
    put-doubles n (put n m i k v) k i (at n (put n m i k v) i k) (E.each (i * n + k)) E

divide_doubles : (n j i : ℕ) (m : List Float) → EachDouble m → EachDouble (divide_entries n j i m)
unfolding divide_entries
divide_doubles n j i m D =
    let m' = put n m i j (at n m i j ⊘ at n m j j) in
    put-doubles n m' j i (at n m' j i ⊘ at n m' j j) (div-fits binary64 (at n m' j i) (at n m' j j))
    (put-doubles n m i j (at n m i j ⊘ at n m j j) (div-fits binary64 (at n m i j) (at n m j j)) D)

row_doubles : (n j i : ℕ) (m : List Float) → EachDouble m → EachDouble (eliminate_row n j i m)
unfolding eliminate_row
row_doubles n j i m D = range-keeps EachDouble (j + 1) (i + 1) (eliminate_entry n j i) (divide_entries n j i m) (λ k x E. entry-doubles n j i k x E) (divide_doubles n j i m D)

pub root-doubles : (n i : ℕ) (m : List Float) → EachDouble m → EachDouble (put n m i i (sqrt (at n m i i)))
root-doubles n i m D = put-doubles n m i i (sqrt (at n m i i)) (sqrt-fits (at n m i i) (D.each (i * n + i))) D

pub eliminate-doubles : (n j : ℕ) (m : List Float) → EachDouble m → EachDouble (eliminate n j m)
unfolding eliminate
eliminate-doubles n j m D = range-keeps EachDouble (j + 1) n (eliminate_row n j) (put n m j j (sqrt (at n m j j))) (λ i x E. row_doubles n j i x E) (root-doubles n j m D)

-- ---- the end of a run
clear_doubles : (n i : ℕ) (m : List Float) → EachDouble m → EachDouble (clear_after n i m)
unfolding clear_after
clear_doubles n i m D = range-keeps EachDouble (i + 1) n (λ k x. put n x i k plus_zero) m (λ k x E. put-doubles n x i k plus_zero zero_double E) D

pub triangle_doubles : (n : ℕ) (m : List Float) → EachDouble m → EachDouble (lower_triangle n m)
unfolding lower_triangle
triangle_doubles n m D = range-keeps EachDouble 0 (n - 1) (clear_after n) m (λ i x E. clear_doubles n i x E) D

pub reorder-doubles : (n : ℕ) (p : List ℕ) (e : List Float) → EachDouble e → EachDouble (reorder n p e)
unfolding reorder
reorder-doubles n p e D = range-keeps EachDouble 0 n (λ i x. set x (get_or p i 0) (get_or e i nan)) e (λ i x E. set-doubles x (get_or p i 0) (get_or e i nan) (D.each i) E) D

-- .. and the fillings of a refused one
pub filled-doubles : (m : Mark) (size : ℕ) (xs : List Float) → (m ≡ None → EachDouble xs) → EachDouble (filled m size xs)
filled-doubles None size xs h = h refl
filled-doubles (Some j) size xs h = zeros-doubles size
