-- What stands at (i, j) after a store, and that a matrix is its entries.
use mathlib.Core.Path.{◌≡◌, sym, ap, ◌∙◌, subst}
use mathlib.Core.List.{List}
use Prim.Native.Nat.{ℕ, ◌+◌, ◌*◌, ◌/◌, ◌%◌, ◌<◌}
use native.Mathlib.Nat.{mul-le-mul_right, div-add-mod', div-lt_iff_lt-mul, mod-lt}
use native.Mathlib.Decide.{ℕ_discrete, dec_lt}
use native.Mathlib.Omega.{arith}
use lib.ListN.{length, get_or, length-set}
use lib.Seq.{get_or-set_same, get_or-set_other, ext_get_or}
use lib.Ieee.{Float, nan}
use Rattle.matrix.specs.Matrix.{at, put}
use Rattle.matrix.proofs.CellLaws.{cell_lt}

-- n rows of n entries
abbrev pub Entries : {A : Type 0} → ℕ → List A → Type 0
Entries n m = length m ≡ n * n

-- ---- a cell has one row and one column
pub cell_row : (n i j k l : ℕ) → j < n → l < n → i * n + j ≡ k * n + l → i ≡ k
cell_row n i j k l a b e = elim (dec_lt i k) [
  | yes p ↦ absurd (omega (arith, mul-le-mul_right n p))
  | no q ↦ elim (dec_lt k i) [ yes p ↦ absurd (omega (arith, mul-le-mul_right n p)) | no r ↦ omega arith ]
]

pub cell_column : (n i j k l : ℕ) → j < n → l < n → i * n + j ≡ k * n + l → j ≡ l
cell_column n i j k l a b e = let r : i ≡ k = cell_row n i j k l a b e in omega (arith, ap (λ (x : ℕ). x * n) r)

-- ---- after a store
pub put_entries : (n : ℕ) (m : List Float) (i j : ℕ) (v : Float) → Entries n m → Entries n (put n m i j v)
put_entries n m i j v h = length-set m (i * n + j) v ∙ h

pub at_put_same : (n : ℕ) (m : List Float) (i j : ℕ) (v : Float) → Entries n m → i < n → j < n → at n (put n m i j v) i j ≡ v
at_put_same n m i j v h a b = get_or-set_same m (i * n + j) v nan (omega (arith, cell_lt n i j a b))

pub at_put_other : (n : ℕ) (m : List Float) (i j k l : ℕ) (v : Float) → j < n → l < n → (k ≡ i → l ≡ j → ⊥) → at n (put n m i j v) k l ≡ at n m k l
at_put_other n m i j k l v a b h = get_or-set_other m (i * n + j) (k * n + l) v nan (λ e. h (cell_row n k l i j b a e) (cell_column n k l i j b a e))

-- ---- matrices with the same entries are the same
pub same-cells : {A : Type 0} (d : A) (n : ℕ) (l k : List A) → Entries n l → Entries n k → ((i j : ℕ) → i < n → j < n → get_or l (i * n + j) d ≡ get_or k (i * n + j) d) → l ≡ k
same-cells d n l k a b h = ext_get_or d l k (a ∙ sym b) (λ x q. cell x (omega arith))
  where
    cell : (x : ℕ) → x < n * n → get_or l x d ≡ get_or k x d
    cell x q = elim (ℕ_discrete n 0) [
      | yes z ↦ absurd (omega (arith, ap (λ (y : ℕ). y * n) z))
      | no z ↦
          let np : 0 < n = omega arith in
          subst (λ (y : ℕ). get_or l y d ≡ get_or k y d) (div-add-mod' x n) (h (x / n) (x % n) ((div-lt_iff_lt-mul np).1 q) (mod-lt x np))
    ]

pub same_entries : (n : ℕ) (A B : List Float) → Entries n A → Entries n B → ((i j : ℕ) → i < n → j < n → at n A i j ≡ at n B i j) → A ≡ B
same_entries = same-cells nan
