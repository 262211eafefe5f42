-- A loop that exchanges cells in pairs: what stands where afterwards. A pivot of a symmetric matrix by exchanges on and below its diagonal.
use mathlib.Core.Path.{◌≡◌, refl, sym, ◌∙◌}
use mathlib.Core.List.{List}
use Prim.Native.Nat.{ℕ, suc, ◌+◌, ◌*◌, ◌≤◌, ◌<◌}
use native.Mathlib.Decide.{ℕ_discrete, dec_lt}
use native.Mathlib.Omega.{arith}
use lib.ListN.{get_or}
use lib.Ieee.{Float, nan}
use Rattle.arithmetic.specs.Loop.{range}
use Rattle.arithmetic.proofs.LoopLaws.{range-ind}
use Rattle.matrix.specs.Matrix.{Square, at}
use Rattle.matrix.proofs.CellLaws.{cell_lt}
use Rattle.matrix.specs.Swap.{swap}
use Rattle.matrix.proofs.EntryLaws.{Entries, cell_row, cell_column}
use Rattle.matrix.proofs.SwapLaws.{transpose, Transposed, first, second, other, transposed, transpose_first, transpose_second, transpose_other, length-swap, get_or-swap}
use Rattle.methods.specs.Statements.{pivot_matrix}
use Rattle.methods.specs.Elimination.{mirrored, swap_left, swap_between, swap_below}
use Rattle.methods.proofs.Mirrored.{mirrored-entries, mirrored-lower, mirrored-upper, mirrored-symmetric, is_mirrored}
use Rattle.methods.proofs.Moved.{pivot-entries, pivot-at, pivot-symmetric}

-- (x, y) is neither (r, c) nor (r', c')
abbrev Away : ℕ → ℕ → ℕ → ℕ → ℕ → ℕ → Type 0
Away r c r' c' x y = (x ≡ r → y ≡ c → ⊥) × (x ≡ r' → y ≡ c' → ⊥)

-- ---- one exchange
module _ (n : ℕ) (m : List Float) (r c r' c' : ℕ) (h : Entries n m) (pr : r < n) (pc : c < n) (pr' : r' < n) (pc' : c' < n) where
  exchange_at : (x y : ℕ) → at n (swap nan m (r * n + c) (r' * n + c')) x y ≡ get_or m (transpose (r * n + c) (r' * n + c') (x * n + y)) nan
  exchange_at x y = get_or-swap nan m (r * n + c) (r' * n + c') (x * n + y) (omega (arith, cell_lt n r c pr pc)) (omega (arith, cell_lt n r' c' pr' pc'))

  exchange_first : at n (swap nan m (r * n + c) (r' * n + c')) r c ≡ at n m r' c'
  exchange_first = exchange_at r c ∙ rw (transpose_first (r * n + c) (r' * n + c') (r * n + c) refl)

  exchange_second : at n (swap nan m (r * n + c) (r' * n + c')) r' c' ≡ at n m r c
  exchange_second = exchange_at r' c' ∙ rw (transpose_second (r * n + c) (r' * n + c') (r' * n + c') refl)

  exchange_other : (x y : ℕ) → y < n → Away r c r' c' x y → at n (swap nan m (r * n + c) (r' * n + c')) x y ≡ at n m x y
  exchange_other x y py d = exchange_at x y ∙ rw (transpose_other (r * n + c) (r' * n + c') (x * n + y)
      (λ e. d.0 (cell_row n x y r c py pc e) (cell_column n x y r c py pc e))
      (λ e. d.1 (cell_row n x y r' c' py pc' e) (cell_column n x y r' c' py pc' e)))

-- ---- a loop of exchanges: l is m with the cells (row k, column k) and (row' k, column' k) exchanged, k from a to b - 1
record Exchanged (n a : ℕ) (row column row' column' : ℕ → ℕ) (m : List Float) (b : ℕ) (l : List Float) : Type 0 where
  entries : Entries n l
  there : (k : ℕ) → a ≤ k → k < b → at n l (row k) (column k) ≡ at n m (row' k) (column' k)
  back : (k : ℕ) → a ≤ k → k < b → at n l (row' k) (column' k) ≡ at n m (row k) (column k)
  rest : (x y : ℕ) → x < n → y < n → ((k : ℕ) → a ≤ k → k < b → Away (row k) (column k) (row' k) (column' k) x y) → at n l x y ≡ at n m x y

module _ (n a b : ℕ) (row column row' column' : ℕ → ℕ) (m₀ : List Float) (ab : a ≤ b) (h : Entries n m₀)
    (inside : (k : ℕ) → a ≤ k → k < b → (row k < n) × (column k < n) × (row' k < n) × (column' k < n))
    (apart : (i k : ℕ) → a ≤ i → i < b → a ≤ k → k < b → (i ≡ k → ⊥) → Away (row k) (column k) (row' k) (column' k) (row i) (column i) × Away (row k) (column k) (row' k) (column' k) (row' i) (column' i)) where
  abbrev exchange : ℕ → List Float → List Float
  exchange k m = swap nan m (row k * n + column k) (row' k * n + column' k)

  exchanged_more : (k : ℕ) → a ≤ k → k < b → (m : List Float) → Exchanged n a row column row' column' m₀ k m → Exchanged n a row column row' column' m₀ (suc k) (exchange k m)
  exchanged_more k ak kb m X = record {
    entries = length-swap nan m (row k * n + column k) (row' k * n + column' k) ∙ X.entries;
    there = λ i u w. elim (ℕ_discrete i k) [
      | yes d ↦ rw d (exchange_first n m (row k) (column k) (row' k) (column' k) X.entries I.0 I.1 I.2 I.3 ∙ X.rest (row' k) (column' k) I.2 I.3 (λ t p q. (apart k t ak kb p (omega arith) (omega arith)).1))
      | no d ↦ kept (row i) (column i) (inside i u (omega arith)).1 (apart i k u (omega arith) ak kb d).0 ∙ X.there i u (omega arith)
    ];
    back = λ i u w. elim (ℕ_discrete i k) [
      | yes d ↦ rw d (exchange_second n m (row k) (column k) (row' k) (column' k) X.entries I.0 I.1 I.2 I.3 ∙ X.rest (row k) (column k) I.0 I.1 (λ t p q. (apart k t ak kb p (omega arith) (omega arith)).0))
      | no d ↦ kept (row' i) (column' i) (inside i u (omega arith)).3 (apart i k u (omega arith) ak kb d).1 ∙ X.back i u (omega arith)
    ];
    rest = λ x y px py d. kept x y py (d k ak (omega arith)) ∙ X.rest x y px py (λ i u w. d i u (omega arith));
  }
    where
      I : (row k < n) × (column k < n) × (row' k < n) × (column' k < n)
      I = inside k ak kb

      kept : (x y : ℕ) → y < n → Away (row k) (column k) (row' k) (column' k) x y → at n (exchange k m) x y ≡ at n m x y
      kept = exchange_other n m (row k) (column k) (row' k) (column' k) X.entries I.0 I.1 I.2 I.3

  exchanged : Exchanged n a row column row' column' m₀ b (range a b exchange m₀)
  exchanged = range-ind (Exchanged n a row column row' column' m₀) a b exchange m₀ ab
      (record { entries = h; there = λ k u w. absurd (omega arith); back = λ k u w. absurd (omega arith); rest = λ x y px py d. refl }) exchanged_more

-- ---- a pivot: left, diagonal, between, below
module _ (n j k : ℕ) (l l₁ l₂ l₃ l₄ : List Float) (s : Square n l) (pq : j + k < n) (z : k ≡ 0 → ⊥) (e₁ : l₁ ≡ swap_left n j (j + k) l) (e₂ : l₂ ≡ swap nan l₁ (j * n + j) ((j + k) * n + (j + k)))
    (e₃ : l₃ ≡ swap_between n j (j + k) l₂) (e₄ : l₄ ≡ swap_below n j (j + k) l₃) where
  abbrev q : ℕ
  q = j + k

  left : Exchanged n 0 (λ i. j) (λ i. i) (λ i. q) (λ i. i) l j l₁
  unfolding swap_left
  left = rw e₁ (exchanged n 0 j (λ i. j) (λ i. i) (λ i. q) (λ i. i) l (omega arith) s.len (λ i u w. (omega arith, omega arith, pq, omega arith))
      (λ i t u w a b d. (((λ e f. d f), (λ e f. d f)), ((λ e f. d f), (λ e f. d f)))))

  entries₂ : Entries n l₂
  entries₂ = rw e₂ (length-swap nan l₁ (j * n + j) (q * n + q) ∙ left.entries)

  between : Exchanged n (j + 1) (λ i. i) (λ i. j) (λ i. q) (λ i. i) l₂ q l₃
  unfolding swap_between
  between = rw e₃ (exchanged n (j + 1) q (λ i. i) (λ i. j) (λ i. q) (λ i. i) l₂ (omega arith) entries₂ (λ i u w. (omega arith, omega arith, pq, omega arith))
      (λ i t u w a b d. (((λ e f. d e), (λ e f. omega arith)), ((λ e f. omega arith), (λ e f. d f)))))

  below : Exchanged n (q + 1) (λ i. i) (λ i. j) (λ i. i) (λ i. q) l₃ n l₄
  unfolding swap_below
  below = rw e₄ (exchanged n (q + 1) n (λ i. i) (λ i. j) (λ i. i) (λ i. q) l₃ (omega arith) between.entries (λ i u w. (w, omega arith, w, pq))
      (λ i t u w a b d. (((λ e f. d e), (λ e f. d e)), ((λ e f. d e), (λ e f. d e)))))

  -- what the exchange on the diagonal leaves, the first two, the last two
  kept-diagonal : (x y : ℕ) → y < n → Away j j q q x y → at n l₂ x y ≡ at n l₁ x y
  kept-diagonal x y py d = rw e₂ (exchange_other n l₁ j j q q left.entries (omega arith) (omega arith) pq pq x y py d)

  kept-first : (x y : ℕ) → x < n → y < n → (x ≡ j → ⊥) → (x ≡ q → y < j → ⊥) → (x ≡ q → y ≡ q → ⊥) → at n l₂ x y ≡ at n l x y
  kept-first x y px py a b c = kept-diagonal x y py ((λ e f. a e), c) ∙ left.rest x y px py (λ i u w. ((λ e f. a e), (λ e f. b e (omega arith))))

  kept-last : (x y : ℕ) → x < n → y < n → (y ≡ j → j < x → (x ≡ q → ⊥) → ⊥) → (x ≡ q → j < y → y < q → ⊥) → (y ≡ q → q < x → ⊥) → at n l₄ x y ≡ at n l₂ x y
  kept-last x y px py a b c =
      below.rest x y px py (λ i u w. ((λ e f. a f (omega arith) (λ g. omega arith)), (λ e f. c f (omega arith))))
      ∙ between.rest x y px py (λ i u w. ((λ e f. a f (omega arith) (λ g. omega arith)), (λ e f. b e (omega arith) (omega arith))))

  -- (j, j) and (q, q)
  diagonal-j : at n l₄ j j ≡ at n l q q
  diagonal-j =
      kept-last j j (omega arith) (omega arith) (λ a b c. omega arith) (λ a b c. omega arith) (λ a b. omega arith)
      ∙ rw e₂ (exchange_first n l₁ j j q q left.entries (omega arith) (omega arith) pq pq)
      ∙ left.rest q q pq pq (λ i u w. ((λ e f. omega arith), (λ e f. omega arith)))

  diagonal-q : at n l₄ q q ≡ at n l j j
  diagonal-q =
      kept-last q q pq pq (λ a b c. omega arith) (λ a b c. omega arith) (λ a b. omega arith)
      ∙ rw e₂ (exchange_second n l₁ j j q q left.entries (omega arith) (omega arith) pq pq)
      ∙ left.rest j j (omega arith) (omega arith) (λ i u w. ((λ e f. omega arith), (λ e f. omega arith)))

  -- before column j
  left-j : (y : ℕ) → y < j → at n l₄ j y ≡ at n l q y
  left-j y p =
      kept-last j y (omega arith) (omega arith) (λ a b c. omega arith) (λ a b c. omega arith) (λ a b. omega arith)
      ∙ kept-diagonal j y (omega arith) ((λ e f. omega arith), (λ e f. omega arith))
      ∙ left.there y (omega arith) p

  left-q : (y : ℕ) → y < j → at n l₄ q y ≡ at n l j y
  left-q y p =
      kept-last q y pq (omega arith) (λ a b c. omega arith) (λ a b c. omega arith) (λ a b. omega arith)
      ∙ kept-diagonal q y (omega arith) ((λ e f. omega arith), (λ e f. omega arith))
      ∙ left.back y (omega arith) p

  -- between
  between_j : (x : ℕ) → j < x → x < q → at n l₄ x j ≡ at n l q x
  between_j x a b =
      below.rest x j (omega arith) (omega arith) (λ i u w. ((λ e f. omega arith), (λ e f. omega arith)))
      ∙ between.there x (omega arith) b
      ∙ kept-first q x pq (omega arith) (λ e. omega arith) (λ e f. omega arith) (λ e f. omega arith)

  between_q : (y : ℕ) → j < y → y < q → at n l₄ q y ≡ at n l y j
  between_q y a b =
      below.rest q y pq (omega arith) (λ i u w. ((λ e f. omega arith), (λ e f. omega arith)))
      ∙ between.back y (omega arith) b
      ∙ kept-first y j (omega arith) (omega arith) (λ e. omega arith) (λ e f. omega arith) (λ e f. omega arith)

  -- below row q
  below_row : (x y : ℕ) → q < x → x < n → y < n → at n l₃ x y ≡ at n l x y
  below_row x y a b c =
      between.rest x y b c (λ i u w. ((λ e f. omega arith), (λ e f. omega arith)))
      ∙ kept-first x y b c (λ e. omega arith) (λ e f. omega arith) (λ e f. omega arith)

  below-j : (x : ℕ) → q < x → x < n → at n l₄ x j ≡ at n l x q
  below-j x a b = below.there x (omega arith) b ∙ below_row x q a b pq

  below-q : (x : ℕ) → q < x → x < n → at n l₄ x q ≡ at n l x j
  below-q x a b = below.back x (omega arith) b ∙ below_row x j a b (omega arith)

  -- (q, j), and what is in none of the two rows and columns
  corner : at n l₄ q j ≡ at n l q j
  corner =
      kept-last q j pq (omega arith) (λ a b c. c refl) (λ a b c. omega arith) (λ a b. omega arith)
      ∙ kept-first q j pq (omega arith) (λ e. omega arith) (λ e f. omega arith) (λ e f. omega arith)

  elsewhere : (x y : ℕ) → x < n → y < n → (x ≡ j → ⊥) → (x ≡ q → ⊥) → (y ≡ j → ⊥) → (y ≡ q → ⊥) → at n l₄ x y ≡ at n l x y
  elsewhere x y px py a b c d =
      kept-last x y px py (λ e f g. c e) (λ e f g. b e) (λ e f. d e)
      ∙ kept-first x y px py a (λ e f. b e) (λ e f. b e)

  lower : (x y : ℕ) → x < n → y ≤ x → at n l x y ≡ at n (mirrored n l) x y
  lower x y px h = sym (mirrored-lower n l x y px h)

  upper : (x y : ℕ) → y < n → x ≤ y → at n l y x ≡ at n (mirrored n l) x y
  upper x y py h = sym (mirrored-upper n l x y py h)

  -- every entry on and below the diagonal
  moved : (x y : ℕ) → x < n → y ≤ x → Transposed j q x → Transposed j q y → at n l₄ x y ≡ at n (mirrored n l) (transpose j q x) (transpose j q y)
  moved x y px yx (first e f) (first e' f') = rw (f, f', e, e') (diagonal-j ∙ lower q q pq (omega arith))
  moved x y px yx (first e f) (second e' f') = absurd (omega arith)
  moved x y px yx (first e f) (other a b f') = rw (f, f', e) (left-j y (omega arith) ∙ lower q y pq (omega arith))
  moved x y px yx (second e f) (first e' f') = rw (f, f', e, e') (corner ∙ upper j q pq (omega arith))
  moved x y px yx (second e f) (second e' f') = rw (f, f', e, e') (diagonal-q ∙ lower j j (omega arith) (omega arith))
  moved x y px yx (second e f) (other a b f') = rw (f, f', e) (elim (dec_lt y j) [
    | yes p ↦ left-q y p ∙ lower j y (omega arith) (omega arith)
    | no p ↦ between_q y (omega arith) (omega arith) ∙ upper j y (omega arith) (omega arith)
  ])
  moved x y px yx (other a b f) (first e' f') = rw (f, f', e') (elim (dec_lt x q) [
    | yes p ↦ between_j x (omega arith) p ∙ upper x q pq (omega arith)
    | no p ↦ below-j x (omega arith) px ∙ lower x q px (omega arith)
  ])
  moved x y px yx (other a b f) (second e' f') = rw (f, f', e') (below-q x (omega arith) px ∙ lower x j px (omega arith))
  moved x y px yx (other a b f) (other a' b' f') = rw (f, f') (elsewhere x y px (omega arith) a b a' b' ∙ lower x y px yx)

  pub swapped_below : mirrored n l₄ ≡ pivot_matrix n j k (mirrored n l)
  swapped_below =
      let M = mirrored n l in
      let h : Entries n M = mirrored-entries n l in
      let pj : j < n = omega arith in
      is_mirrored n l₄ (pivot_matrix n j k M) (pivot-entries n j k M h pj pq)
      (record { same = pivot-symmetric n j k M h pj pq (mirrored-symmetric n l).same })
      (λ x y px yx. moved x y px yx (transposed j q x) (transposed j q y) ∙ sym (pivot-at n j k M h pj pq x y px (omega arith)))
