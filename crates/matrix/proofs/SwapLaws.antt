-- What stands where after a swap of two elements, of two rows, of two columns, and of both; swapping twice changes nothing; what swaps keep.
use mathlib.Core.Path.{◌≡◌, refl, sym, ap, ◌∙◌, subst}
use mathlib.Core.List.{List, [], ◌∷◌, map}
use mathlib.Core.Bool.{cond}
use Prim.Native.Nat.{ℕ, zero, suc, ◌+◌, ◌*◌, ◌≤◌, ◌<◌}
use native.Mathlib.Decide.{ℕ_discrete}
use native.Mathlib.Omega.{arith}
use lib.ListN.{length, get_or, set, length-set}
use lib.Seq.{get_or-set_same, get_or-set_other}
use lib.Dec.{eqb}
use borrow.Author.Tests.{eq-eqb, ne_eqb}
use Rattle.arithmetic.proofs.LoopLaws.{range-ind, range2_ind}
use Rattle.matrix.proofs.CellLaws.{cell_lt}
use Rattle.matrix.specs.Swap.{swap, swap_in_rows, swap_in_columns, swap_rows, swap_columns}
use Rattle.matrix.proofs.EntryLaws.{Entries, cell_row, cell_column, same-cells}

-- ---- the transposition of two positions
unfoldable pub transpose : ℕ → ℕ → ℕ → ℕ
transpose a b r = cond (eqb r a) b (cond (eqb r b) a r)

pub data Transposed (a b r : ℕ) : Type 0 where
  first : r ≡ a → transpose a b r ≡ b → Transposed a b r
  second : r ≡ b → transpose a b r ≡ a → Transposed a b r
  other : (r ≡ a → ⊥) → (r ≡ b → ⊥) → transpose a b r ≡ r → Transposed a b r

pub transpose_first : (a b r : ℕ) → r ≡ a → transpose a b r ≡ b
unfolding transpose
transpose_first a b r e = rw (eq-eqb r a e)

pub transpose_second : (a b r : ℕ) → r ≡ b → transpose a b r ≡ a
unfolding transpose
transpose_second a b r e = elim (ℕ_discrete r a) [ yes p ↦ rw (eq-eqb r a p) (omega arith) | no q ↦ rw (ne_eqb r a q, eq-eqb r b e) ]

pub transpose_other : (a b r : ℕ) → (r ≡ a → ⊥) → (r ≡ b → ⊥) → transpose a b r ≡ r
unfolding transpose
transpose_other a b r p q = rw (ne_eqb r a p, ne_eqb r b q)

pub transposed : (a b r : ℕ) → Transposed a b r
transposed a b r = elim (ℕ_discrete r a) [
  | yes p ↦ first p (transpose_first a b r p)
  | no q ↦ elim (ℕ_discrete r b) [ yes p ↦ second p (transpose_second a b r p) | no s ↦ other q s (transpose_other a b r q s) ]
]

pub transpose_lt : (n a b r : ℕ) → a < n → b < n → r < n → transpose a b r < n
transpose_lt n a b r p q h = elim (transposed a b r) [ first e f ↦ omega arith | second e f ↦ omega arith | other d e f ↦ omega arith ]

pub transpose_twice : (a b r : ℕ) → transpose a b (transpose a b r) ≡ r
transpose_twice a b r = elim (transposed a b r) [
  | first e f ↦ transpose_second a b (transpose a b r) f ∙ sym e
  | second e f ↦ transpose_first a b (transpose a b r) f ∙ sym e
  | other d e f ↦ ap (transpose a b) f ∙ f
]

pub transpose_self : (a r : ℕ) → transpose a a r ≡ r
transpose_self a r = elim (transposed a a r) [ first e f ↦ f ∙ sym e | second e f ↦ f ∙ sym e | other d e f ↦ f ]

-- positions below both are left alone
pub transpose_low : (j a b r : ℕ) → j ≤ a → j ≤ b → r < j → transpose a b r ≡ r
transpose_low j a b r p q h = transpose_other a b r (omega arith) (omega arith)

-- ---- two elements of a list
pub length-swap : {A : Type 0} (d : A) (l : List A) (a b : ℕ) → length (swap d l a b) ≡ length l
length-swap d l a b = length-set (set l a (get_or l b d)) b (get_or l a d) ∙ length-set l a (get_or l b d)

pub get_or-swap : {A : Type 0} (d : A) (l : List A) (a b x : ℕ) → a < length l → b < length l → get_or (swap d l a b) x d ≡ get_or l (transpose a b x) d
get_or-swap {A} d l a b x pa pb =
    let q : List A = set l a (get_or l b d) in
    let lq : length q ≡ length l = length-set l a (get_or l b d) in
    elim (transposed a b x) [
      | second e f ↦ rw (e, transpose_second a b b refl) (get_or-set_same q b (get_or l a d) d (omega arith))
      | first e f ↦ elim (ℕ_discrete a b) [
        | yes g ↦ rw (e, g, transpose_first b b b refl) (get_or-set_same (set l b (get_or l b d)) b (get_or l b d) d (omega (arith, length-set l b (get_or l b d))))
        | no g ↦ rw (e, transpose_first a b a refl) (get_or-set_other q b a (get_or l a d) d g ∙ get_or-set_same l a (get_or l b d) d pa)
      ]
      | other p s f ↦ get_or-set_other q b x (get_or l a d) d s ∙ get_or-set_other l a x (get_or l b d) d p ∙ ap (λ (k : ℕ). get_or l k d) (sym f)
    ]

-- P holds of every element of l
abbrev pub Each : {A : Type 0} → A → (A → Type 0) → List A → Type 0
Each d P l = (k : ℕ) → k < length l → P (get_or l k d)

-- what holds of every element does so after a swap
pub swap-each : {A : Type 0} (d : A) (P : A → Type 0) (l : List A) (a b : ℕ) → a < length l → b < length l → Each d P l → Each d P (swap d l a b)
swap-each d P l a b pa pb h x px =
    subst P (sym (get_or-swap d l a b x pa pb)) (h (transpose a b x) (transpose_lt (length l) a b x pa pb (omega (arith, length-swap d l a b))))

-- a swap of images is the image of the swap
pub map-set : {A B : Type 0} (f : A → B) (l : List A) (i : ℕ) (v : A) → map f (set l i v) ≡ set (map f l) i (f v)
map-set f [] i v = refl
map-set f (x ∷ l) zero v = refl
map-set f (x ∷ l) (suc i) v = ap (λ t. f x ∷ t) (map-set f l i v)

get_or-image : {A B : Type 0} (f : A → B) (d : A) (e : B) (l : List A) (i : ℕ) → i < length l → get_or (map f l) i e ≡ f (get_or l i d)
get_or-image f d e [] i p = absurd (omega arith)
get_or-image f d e (x ∷ l) zero p = refl
get_or-image f d e (x ∷ l) (suc i) p = get_or-image f d e l i (omega arith)

pub swap-map : {A B : Type 0} (f : A → B) (d : A) (e : B) (l : List A) (a b : ℕ) → a < length l → b < length l → swap e (map f l) a b ≡ map f (swap d l a b)
swap-map f d e l a b pa pb = rw (get_or-image f d e l a pa, get_or-image f d e l b pb, map-set f (set l a (get_or l b d)) b (get_or l a d), map-set f l a (get_or l b d))

-- ---- two rows
record RowsTo {A : Type 0} (d : A) (n : ℕ) (m : List A) (a b t : ℕ) (s : List A) : Type 0 where
  entries : Entries n s
  done : (r c : ℕ) → r < n → c < n → c < t → get_or s (r * n + c) d ≡ get_or m (transpose a b r * n + c) d
  rest : (r c : ℕ) → r < n → c < n → t ≤ c → get_or s (r * n + c) d ≡ get_or m (r * n + c) d

-- a swap of two cells of one column, and of one row
row_cell : (n a b t r c : ℕ) → t < n → c < n → (c ≡ t → ⊥) → transpose (a * n + t) (b * n + t) (r * n + c) ≡ r * n + c
row_cell n a b t r c pt pc h =
    transpose_other (a * n + t) (b * n + t) (r * n + c) (λ e. h (cell_column n r c a t pc pt e)) (λ e. h (cell_column n r c b t pc pt e))

row_cell_same : (n a b t r : ℕ) → t < n → transpose (a * n + t) (b * n + t) (r * n + t) ≡ transpose a b r * n + t
row_cell_same n a b t r pt = elim (transposed a b r) [
  | first e f ↦ rw (f, e) (transpose_first (a * n + t) (b * n + t) (a * n + t) refl)
  | second e f ↦ rw (f, e) (transpose_second (a * n + t) (b * n + t) (b * n + t) refl)
  | other p q f ↦ rw f (transpose_other (a * n + t) (b * n + t) (r * n + t) (λ e. p (cell_row n r t a t pt pt e)) (λ e. q (cell_row n r t b t pt pt e)))
]

module _ {A : Type 0} (d : A) (n : ℕ) (m : List A) (a b : ℕ) (h : Entries n m) (pa : a < n) (pb : b < n) where
  rows_step : (t : ℕ) → 0 ≤ t → t < n → (s : List A) → RowsTo d n m a b t s → RowsTo d n m a b (suc t) (swap_in_rows d n a b t s)
  unfolding swap_in_rows
  rows_step t z l s I =
      let la : a * n + t < length s = omega (arith, I.entries, cell_lt n a t pa l) in
      let lb : b * n + t < length s = omega (arith, I.entries, cell_lt n b t pb l) in
      record {
        entries = length-swap d s (a * n + t) (b * n + t) ∙ I.entries;
        done = λ r c pr pc lt. get_or-swap d s (a * n + t) (b * n + t) (r * n + c) la lb ∙ elim (ℕ_discrete c t) [
          | yes e ↦ rw (e, row_cell_same n a b t r l) (I.rest (transpose a b r) t (transpose_lt n a b r pa pb pr) l (omega arith))
          | no e ↦ rw (row_cell n a b t r c l pc e) (I.done r c pr pc (omega arith))
        ];
        rest = λ r c pr pc le. get_or-swap d s (a * n + t) (b * n + t) (r * n + c) la lb ∙ rw (row_cell n a b t r c l pc (λ e. omega arith)) (I.rest r c pr pc (omega arith));
      }

  rows_all : RowsTo d n m a b n (swap_rows d n m a b)
  unfolding swap_rows
  rows_all = range-ind (RowsTo d n m a b) 0 n (swap_in_rows d n a b) m (omega arith)
      (record { entries = h; done = λ r c pr pc lt. absurd (omega arith); rest = λ r c pr pc le. refl }) rows_step

  pub swap-rows-entries : Entries n (swap_rows d n m a b)
  swap-rows-entries = rows_all.entries

  pub swap-rows-at : (r c : ℕ) → r < n → c < n → get_or (swap_rows d n m a b) (r * n + c) d ≡ get_or m (transpose a b r * n + c) d
  swap-rows-at r c pr pc = rows_all.done r c pr pc pc

-- ---- two columns
record ColumnsTo {A : Type 0} (d : A) (n : ℕ) (m : List A) (a b t : ℕ) (s : List A) : Type 0 where
  entries : Entries n s
  done : (r c : ℕ) → r < n → c < n → r < t → get_or s (r * n + c) d ≡ get_or m (r * n + transpose a b c) d
  rest : (r c : ℕ) → r < n → c < n → t ≤ r → get_or s (r * n + c) d ≡ get_or m (r * n + c) d

column-cell : (n a b t r c : ℕ) → a < n → b < n → c < n → (r ≡ t → ⊥) → transpose (t * n + a) (t * n + b) (r * n + c) ≡ r * n + c
column-cell n a b t r c pa pb pc h =
    transpose_other (t * n + a) (t * n + b) (r * n + c) (λ e. h (cell_row n r c t a pc pa e)) (λ e. h (cell_row n r c t b pc pb e))

column-cell_same : (n a b t c : ℕ) → a < n → b < n → c < n → transpose (t * n + a) (t * n + b) (t * n + c) ≡ t * n + transpose a b c
column-cell_same n a b t c pa pb pc = elim (transposed a b c) [
  | first e f ↦ rw (f, e) (transpose_first (t * n + a) (t * n + b) (t * n + a) refl)
  | second e f ↦ rw (f, e) (transpose_second (t * n + a) (t * n + b) (t * n + b) refl)
  | other p q f ↦ rw f (transpose_other (t * n + a) (t * n + b) (t * n + c) (λ e. p (cell_column n t c t a pc pa e)) (λ e. q (cell_column n t c t b pc pb e)))
]

module _ {A : Type 0} (d : A) (n : ℕ) (m : List A) (a b : ℕ) (h : Entries n m) (pa : a < n) (pb : b < n) where
  columns_step : (t : ℕ) → 0 ≤ t → t < n → (s : List A) → ColumnsTo d n m a b t s → ColumnsTo d n m a b (suc t) (swap_in_columns d n a b t s)
  unfolding swap_in_columns
  columns_step t z l s I =
      let la : t * n + a < length s = omega (arith, I.entries, cell_lt n t a l pa) in
      let lb : t * n + b < length s = omega (arith, I.entries, cell_lt n t b l pb) in
      record {
        entries = length-swap d s (t * n + a) (t * n + b) ∙ I.entries;
        done = λ r c pr pc lt. get_or-swap d s (t * n + a) (t * n + b) (r * n + c) la lb ∙ elim (ℕ_discrete r t) [
          | yes e ↦ rw (e, column-cell_same n a b t c pa pb pc) (I.rest t (transpose a b c) l (transpose_lt n a b c pa pb pc) (omega arith))
          | no e ↦ rw (column-cell n a b t r c pa pb pc e) (I.done r c pr pc (omega arith))
        ];
        rest = λ r c pr pc le. get_or-swap d s (t * n + a) (t * n + b) (r * n + c) la lb ∙ rw (column-cell n a b t r c pa pb pc (λ e. omega arith)) (I.rest r c pr pc (omega arith));
      }

  columns_all : ColumnsTo d n m a b n (swap_columns d n m a b)
  unfolding swap_columns
  columns_all = range-ind (ColumnsTo d n m a b) 0 n (swap_in_columns d n a b) m (omega arith)
      (record { entries = h; done = λ r c pr pc lt. absurd (omega arith); rest = λ r c pr pc le. refl }) columns_step

  pub swap-columns-entries : Entries n (swap_columns d n m a b)
  swap-columns-entries = columns_all.entries

  pub swap-columns-at : (r c : ℕ) → r < n → c < n → get_or (swap_columns d n m a b) (r * n + c) d ≡ get_or m (r * n + transpose a b c) d
  swap-columns-at r c pr pc = columns_all.done r c pr pc pr

-- ---- rows, then columns
abbrev pub swap-both : {A : Type 0} → A → ℕ → List A → ℕ → ℕ → List A
swap-both d n m a b = swap_columns d n (swap_rows d n m a b) a b

module _ {A : Type 0} (d : A) (n : ℕ) (m : List A) (a b : ℕ) (h : Entries n m) (pa : a < n) (pb : b < n) where
  pub swap-both_entries : Entries n (swap-both d n m a b)
  swap-both_entries = swap-columns-entries d n (swap_rows d n m a b) a b (swap-rows-entries d n m a b h pa pb) pa pb

  pub swap-both_at : (r c : ℕ) → r < n → c < n → get_or (swap-both d n m a b) (r * n + c) d ≡ get_or m (transpose a b r * n + transpose a b c) d
  swap-both_at r c pr pc =
      swap-columns-at d n (swap_rows d n m a b) a b (swap-rows-entries d n m a b h pa pb) pa pb r c pr pc
      ∙ swap-rows-at d n m a b h pa pb r (transpose a b c) pr (transpose_lt n a b c pa pb pc)

  -- ---- twice
  pub swap-rows-twice : swap_rows d n (swap_rows d n m a b) a b ≡ m
  swap-rows-twice =
      let k = swap-rows-entries d n m a b h pa pb in
      same-cells d n _ m (swap-rows-entries d n (swap_rows d n m a b) a b k pa pb) h
      (λ i j pi pj. swap-rows-at d n (swap_rows d n m a b) a b k pa pb i j pi pj ∙ swap-rows-at d n m a b h pa pb (transpose a b i) j (transpose_lt n a b i pa pb pi) pj ∙ ap (λ (x : ℕ). get_or m (x * n + j) d) (transpose_twice a b i))

  pub swap-columns-twice : swap_columns d n (swap_columns d n m a b) a b ≡ m
  swap-columns-twice =
      let k = swap-columns-entries d n m a b h pa pb in
      same-cells d n _ m (swap-columns-entries d n (swap_columns d n m a b) a b k pa pb) h
      (λ i j pi pj. swap-columns-at d n (swap_columns d n m a b) a b k pa pb i j pi pj ∙ swap-columns-at d n m a b h pa pb i (transpose a b j) pi (transpose_lt n a b j pa pb pj) ∙ ap (λ (x : ℕ). get_or m (i * n + x) d) (transpose_twice a b j))

-- ---- what swaps of rows and of columns keep
pub length-swap_rows : {A : Type 0} (d : A) (n : ℕ) (m : List A) (a b : ℕ) → length (swap_rows d n m a b) ≡ length m
unfolding swap_rows swap_in_rows
length-swap_rows d n m a b = range-ind (λ t s. length s ≡ length m) 0 n (swap_in_rows d n a b) m (omega arith) refl
    (λ t z l s e. length-swap d s (a * n + t) (b * n + t) ∙ e)

pub length-swap_columns : {A : Type 0} (d : A) (n : ℕ) (m : List A) (a b : ℕ) → length (swap_columns d n m a b) ≡ length m
unfolding swap_columns swap_in_columns
length-swap_columns d n m a b = range-ind (λ t s. length s ≡ length m) 0 n (swap_in_columns d n a b) m (omega arith) refl
    (λ t z l s e. length-swap d s (t * n + a) (t * n + b) ∙ e)

-- P, where it holds of every element
module _ {A : Type 0} (d : A) (P : A → Type 0) (n : ℕ) (m : List A) (a b : ℕ) (h : Entries n m) (pa : a < n) (pb : b < n) (each : Each d P m) where
  pub swap-rows-each : Each d P (swap_rows d n m a b)
  unfolding swap_rows swap_in_rows
  swap-rows-each = (range-ind (λ t s. Entries n s × Each d P s) 0 n (swap_in_rows d n a b) m (omega arith) (h, each) (λ t z l s e. (
    length-swap d s (a * n + t) (b * n + t) ∙ e.0,
    swap-each d P s (a * n + t) (b * n + t) (omega (arith, e.0, cell_lt n a t pa l)) (omega (arith, e.0, cell_lt n b t pb l)) e.1,
  ))).1

  pub swap-columns-each : Each d P (swap_columns d n m a b)
  unfolding swap_columns swap_in_columns
  swap-columns-each = (range-ind (λ t s. Entries n s × Each d P s) 0 n (swap_in_columns d n a b) m (omega arith) (h, each) (λ t z l s e. (
    length-swap d s (t * n + a) (t * n + b) ∙ e.0,
    swap-each d P s (t * n + a) (t * n + b) (omega (arith, e.0, cell_lt n t a l pa)) (omega (arith, e.0, cell_lt n t b l pb)) e.1,
  ))).1

-- the swap of images is the image of the swap, whatever a read beyond the end gives
module _ {A B : Type 0} (f : A → B) (d : A) (e : B) (n : ℕ) (m : List A) (a b : ℕ) (h : Entries n m) (pa : a < n) (pb : b < n) where
  pub swap-rows-map : swap_rows e n (map f m) a b ≡ map f (swap_rows d n m a b)
  unfolding swap_rows swap_in_rows
  swap-rows-map = (range2_ind (λ t s s'. Entries n s' × (s ≡ map f s')) 0 n (swap_in_rows e n a b) (swap_in_rows d n a b) (map f m) m (omega arith) (h, refl) (λ t z l s s' i. (
    length-swap d s' (a * n + t) (b * n + t) ∙ i.0,
    ap (λ (k : List B). swap e k (a * n + t) (b * n + t)) i.1
        ∙ swap-map f d e s' (a * n + t) (b * n + t) (omega (arith, i.0, cell_lt n a t pa l)) (omega (arith, i.0, cell_lt n b t pb l)),
  ))).1

  pub swap-columns-map : swap_columns e n (map f m) a b ≡ map f (swap_columns d n m a b)
  unfolding swap_columns swap_in_columns
  swap-columns-map = (range2_ind (λ t s s'. Entries n s' × (s ≡ map f s')) 0 n (swap_in_columns e n a b) (swap_in_columns d n a b) (map f m) m (omega arith) (h, refl) (λ t z l s s' i. (
    length-swap d s' (t * n + a) (t * n + b) ∙ i.0,
    ap (λ (k : List B). swap e k (t * n + a) (t * n + b)) i.1
        ∙ swap-map f d e s' (t * n + a) (t * n + b) (omega (arith, i.0, cell_lt n t a l pa)) (omega (arith, i.0, cell_lt n t b l pb)),
  ))).1
