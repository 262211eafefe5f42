-- The statements of a step of GMW81: what stands where afterwards, and that they go along with moved positions.
use mathlib.Core.Path.{◌≡◌, refl, sym, ap, ap₂, ◌∙◌, subst}
use mathlib.Core.List.{List}
use Prim.Native.Nat.{ℕ, ◌+◌, ◌*◌, ◌≤◌, ◌<◌}
use native.Mathlib.Decide.{ℕ_discrete, dec_lt}
use native.Mathlib.Omega.{arith}
use lib.ListN.{get_or, length-replicate, get_or-replicate}
use lib.Ieee.{Float, nan}
use Rattle.arithmetic.specs.Double.{plus_zero, ◌⊕◌, ◌⊖◌, ◌⊗◌, ◌⊘◌, square}
use Rattle.arithmetic.specs.Loop.{range}
use Rattle.arithmetic.proofs.LoopLaws.{range2_ind}
use Rattle.arithmetic.proofs.Folds.{Double}
use Rattle.matrix.specs.Matrix.{at, zeros}
use Rattle.matrix.proofs.CellLaws.{cell_lt}
use Rattle.matrix.proofs.EntryLaws.{Entries}
use Rattle.matrix.proofs.Bijection.{Bijection, Fixes, bijection_from, stays_above, stays_after, injective}
use Rattle.methods.specs.Gmw81.{divide_row, dot, column, theta_of, update_diagonal, start}
use Rattle.methods.specs.Elimination.{Rest, Stored}
use Rattle.methods.proofs.Magnitudes.{largest_magnitude_along}
use Rattle.methods.proofs.Moved.{Moved}
use Rattle.methods.proofs.Stored.{stored}
use Rattle.methods.proofs.GmwLaws.{theta_is, diagonal-is}

-- ---- sums of the same terms
pub sum_same : (a b : ℕ) (f g : ℕ → Float) → a ≤ b → ((i : ℕ) → a ≤ i → i < b → f i ≡ g i) → range a b (λ k s. s ⊕ f k) plus_zero ≡ range a b (λ k s. s ⊕ g k) plus_zero
sum_same a b f g h e = range2_ind (λ t x y. x ≡ y) a b (λ k s. s ⊕ f k) (λ k s. s ⊕ g k) plus_zero plus_zero h refl (λ i p q x y k. ap₂ ◌⊕◌ k (e i p q))

-- ---- l[(j, s)] = c[(j, s)] / d[s]
module _ (n j : ℕ) (c d l : List Float) (pj : j < n) (h : Entries n l) where
  pub row_stored : Stored n 0 (λ s. j) (λ s. s) (λ s. at n c j s ⊘ get_or d s nan) l j (divide_row n j c d l)
  unfolding divide_row
  row_stored = stored n 0 j (λ s. j) (λ s. s) (λ s m. at n c j s ⊘ get_or d s nan) (λ s. at n c j s ⊘ get_or d s nan) l (omega arith) h
      (λ i p q. pj) (λ i p q. omega arith) (λ i k p q u w e f. f) (λ i p q m r. refl)

  row_at : (y : ℕ) → y < j → at n (divide_row n j c d l) j y ≡ at n c j y ⊘ get_or d y nan
  row_at y py = row_stored.done y (omega arith) py

  row_other : (x y : ℕ) → x < n → y < n → (x ≡ j → y < j → ⊥) → at n (divide_row n j c d l) x y ≡ at n l x y
  row_other x y px py k = row_stored.rest x y px py (λ t u w e f. k e (omega arith))

-- ---- c[(i, j)] = l[(i, j)] - ..
module _ (n j : ℕ) (l c : List Float) (pj : j < n) (h : Entries n c) where
  dot-same : (i : ℕ) (m : List Float) → i < n → Rest n j (λ k. k) (λ k. j) c i m → dot n j l m i ≡ dot n j l c i
  unfolding dot
  dot-same i m pi r = sum_same 0 j (λ s. at n l j s ⊗ at n m i s) (λ s. at n l j s ⊗ at n c i s) (omega arith)
      (λ s u w. ap (λ (v : Float). at n l j s ⊗ v) (r i s pi (omega arith) (λ k a b e f. omega arith)))

  column-stored : Stored n j (λ i. i) (λ i. j) (λ i. at n l i j ⊖ dot n j l c i) c n (column n j l c)
  unfolding column
  column-stored = stored n j n (λ i. i) (λ i. j) (λ i m. at n l i j ⊖ dot n j l m i) (λ i. at n l i j ⊖ dot n j l c i) c (omega arith) h
      (λ i p q. q) (λ i p q. pj) (λ i k p q u w e f. e) (λ i p q m r. ap (λ (v : Float). at n l i j ⊖ v) (dot-same i m q r))

  pub column-at : (x : ℕ) → j ≤ x → x < n → at n (column n j l c) x j ≡ at n l x j ⊖ dot n j l c x
  column-at x p q = column-stored.done x p q

  pub column-other : (x y : ℕ) → x < n → y < n → (y ≡ j → j ≤ x → ⊥) → at n (column n j l c) x y ≡ at n c x y
  column-other x y px py k = column-stored.rest x y px py (λ t u w e f. k f (omega arith))

  pub column-entries : Entries n (column n j l c)
  column-entries = column-stored.entries

-- ---- c[(i, i)] -= c2 / d[j]
module _ (n j : ℕ) (dj : Float) (c : List Float) (pj : j < n) (h : Entries n c) where
  abbrev lowered : ℕ → Float
  lowered i = at n c i i ⊖ square (at n c i j) ⊘ dj

  diagonal-stored : Stored n (j + 1) (λ i. i) (λ i. i) lowered c n (update_diagonal n j dj c)
  diagonal-stored = subst (Stored n (j + 1) (λ i. i) (λ i. i) lowered c n) (sym (diagonal-is n j dj c pj))
      (stored n (j + 1) n (λ i. i) (λ i. i) (λ i m. at n m i i ⊖ square (at n m i j) ⊘ dj) lowered c (omega arith) h
      (λ i p q. q) (λ i p q. q) (λ i k p q u w e f. e)
      (λ i p q m r.
      let a : at n m i i ≡ at n c i i = r i i q q (λ k u w e f. omega arith) in
      let b : at n m i j ≡ at n c i j = r i j q pj (λ k u w e f. omega arith) in
      ap₂ ◌⊖◌ a (ap (λ (v : Float). square v ⊘ dj) b)))

  diagonal-at : (x : ℕ) → j < x → x < n → at n (update_diagonal n j dj c) x x ≡ lowered x
  diagonal-at x p q = diagonal-stored.done x (omega arith) q

  pub diagonal-other : (x y : ℕ) → x < n → y < n → (x ≡ y → j < x → ⊥) → at n (update_diagonal n j dj c) x y ≡ at n c x y
  diagonal-other x y px py k = diagonal-stored.rest x y px py (λ t u w e f. k (e ∙ sym f) (omega arith))

  pub diagonal-entries : Entries n (update_diagonal n j dj c)
  diagonal-entries = diagonal-stored.entries

-- ---- along moved positions that leave 0 to j where they are
module _ (n j : ℕ) (σ τ : ℕ → ℕ) (pj : j < n) (P : Bijection 0 n σ τ) (f : Fixes n (j + 1) σ) where
  fixed : σ j ≡ j
  fixed = f j (omega arith) pj

  low : (x : ℕ) → x < j → x < n → σ x ≡ x
  low x p q = f x (omega arith) q

  one-to_one : (x y : ℕ) → x < n → y < n → σ x ≡ σ y → x ≡ y
  one-to_one x y px py e = injective P x y (omega arith) px (omega arith) py e

  -- σ x is j only at j, below j only below j, and above j only above j
  back_j : (x : ℕ) → x < n → σ x ≡ j → x ≡ j
  back_j x px e = one-to_one x j px pj (e ∙ sym fixed)

  back_low : (x : ℕ) → x < n → σ x < j → x < j
  back_low x px e = elim (dec_lt x j) [
    | yes p ↦ p
    | no q ↦ elim (ℕ_discrete x j) [ yes d ↦ absurd (omega (arith, ap σ d, fixed)) | no d ↦ let w : j < x = omega arith in absurd (omega (arith, stays_after n j σ τ P f x w px)) ]
  ]

  back_high : (x : ℕ) → x < n → j < σ x → j < x
  back_high x px e = elim (dec_lt j x) [ yes p ↦ p | no q ↦ absurd (omega (arith, f x (omega arith) px)) ]

  pub row_moved : (cA cB d l_a l_b : List Float) → Moved n σ cA cB → Moved n σ l_a l_b → Moved n σ (divide_row n j cA d l_a) (divide_row n j cB d l_b)
  row_moved cA cB d l_a l_b C L = record {
    entries_a = (row_stored n j cA d l_a pj L.entries_a).entries;
    entries_b = (row_stored n j cB d l_b pj L.entries_b).entries;
    moved = λ x y px py. elim (ℕ_discrete x j) [
      | yes e ↦ elim (dec_lt y j) [
        | yes k ↦
            ap (λ (z : ℕ). at n (divide_row n j cB d l_b) z y) e ∙ row_at n j cB d l_b pj L.entries_b y k
            ∙ ap (λ (v : Float). v ⊘ get_or d y nan) (C.moved j y pj py ∙ ap₂ (at n cA) fixed (low y k py))
            ∙ sym (row_at n j cA d l_a pj L.entries_a y k)
            ∙ sym (ap₂ (at n (divide_row n j cA d l_a)) (ap σ e ∙ fixed) (low y k py))
        | no k ↦ row_other n j cB d l_b pj L.entries_b x y px py (λ u w. k w) ∙ L.moved x y px py
            ∙ sym (row_other n j cA d l_a pj L.entries_a (σ x) (σ y) (P.to_high x (omega arith) px) (P.to_high y (omega arith) py) (λ u w. k (back_low y py w)))
      ]
      | no e ↦ row_other n j cB d l_b pj L.entries_b x y px py (λ u w. e u) ∙ L.moved x y px py
          ∙ sym (row_other n j cA d l_a pj L.entries_a (σ x) (σ y) (P.to_high x (omega arith) px) (P.to_high y (omega arith) py) (λ u w. e (back_j x px u)))
    ];
  }

  -- the entries that step j stores in row j of l
  pub row_fixed : (A B : List Float) → Moved n σ A B → (s : ℕ) → s < j → at n B j s ≡ at n A j s
  row_fixed A B M s p = M.moved j s pj (omega arith) ∙ ap₂ (at n A) fixed (low s p (omega arith))

  pub column-moved : (l_a l_b cA cB : List Float) → Moved n σ l_a l_b → Moved n σ cA cB → Moved n σ (column n j l_a cA) (column n j l_b cB)
  column-moved l_a l_b cA cB L C = record {
    entries_a = column-entries n j l_a cA pj C.entries_a;
    entries_b = column-entries n j l_b cB pj C.entries_b;
    moved = λ x y px py. elim (ℕ_discrete y j) [
      | yes e ↦ elim (dec_lt x j) [
        | yes k ↦ other x y px py (λ u w. omega arith) (λ u w. omega (arith, low x k px))
        | no k ↦ ap (at n (column n j l_b cB) x) e ∙ here x (omega arith) px ∙ sym (ap (at n (column n j l_a cA) (σ x)) (ap σ e ∙ fixed))
      ]
      | no e ↦ other x y px py (λ u w. e u) (λ u w. e (back_j y py u))
    ];
  }
    where
      other : (x y : ℕ) → x < n → y < n → (y ≡ j → j ≤ x → ⊥) → (σ y ≡ j → j ≤ σ x → ⊥) → at n (column n j l_b cB) x y ≡ at n (column n j l_a cA) (σ x) (σ y)
      other x y px py u w = column-other n j l_b cB pj C.entries_b x y px py u ∙ C.moved x y px py
          ∙ sym (column-other n j l_a cA pj C.entries_a (σ x) (σ y) (P.to_high x (omega arith) px) (P.to_high y (omega arith) py) w)

      dots : (x : ℕ) → x < n → dot n j l_b cB x ≡ dot n j l_a cA (σ x)
      dots x q = unfold dot in sum_same 0 j (λ s. at n l_b j s ⊗ at n cB x s) (λ s. at n l_a j s ⊗ at n cA (σ x) s) (omega arith)
          (λ s u w. let sn : s < n = omega arith in ap₂ ◌⊗◌ (row_fixed l_a l_b L s w) (C.moved x s q sn ∙ ap (at n cA (σ x)) (low s w sn)))

      here : (x : ℕ) → j ≤ x → x < n → at n (column n j l_b cB) x j ≡ at n (column n j l_a cA) (σ x) j
      here x p q =
          column-at n j l_b cB pj C.entries_b x p q
          ∙ ap₂ ◌⊖◌ (L.moved x j q pj ∙ ap (at n l_a (σ x)) fixed) (dots x q)
          ∙ sym (column-at n j l_a cA pj C.entries_a (σ x) (stays_above n j σ τ P (λ t a b. f t (omega arith) b) x p q) (P.to_high x (omega arith) q))

  pub diagonal-moved : (dj : Float) (cA cB : List Float) → Moved n σ cA cB → Moved n σ (update_diagonal n j dj cA) (update_diagonal n j dj cB)
  diagonal-moved dj cA cB C = record {
    entries_a = diagonal-entries n j dj cA pj C.entries_a;
    entries_b = diagonal-entries n j dj cB pj C.entries_b;
    moved = λ x y px py. elim (ℕ_discrete x y) [
      | yes e ↦ elim (dec_lt j x) [
        | yes k ↦ ap (at n (update_diagonal n j dj cB) x) (sym e) ∙ here x k px ∙ ap (at n (update_diagonal n j dj cA) (σ x)) (ap σ e)
        | no k ↦ other x y px py (λ u w. k w) (λ u w. k (back_high x px w))
      ]
      | no e ↦ other x y px py (λ u w. e u) (λ u w. e (one-to_one x y px py u))
    ];
  }
    where
      other : (x y : ℕ) → x < n → y < n → (x ≡ y → j < x → ⊥) → (σ x ≡ σ y → j < σ x → ⊥) → at n (update_diagonal n j dj cB) x y ≡ at n (update_diagonal n j dj cA) (σ x) (σ y)
      other x y px py u w = diagonal-other n j dj cB pj C.entries_b x y px py u ∙ C.moved x y px py
          ∙ sym (diagonal-other n j dj cA pj C.entries_a (σ x) (σ y) (P.to_high x (omega arith) px) (P.to_high y (omega arith) py) w)

      here : (x : ℕ) → j < x → x < n → at n (update_diagonal n j dj cB) x x ≡ at n (update_diagonal n j dj cA) (σ x) (σ x)
      here x p q =
          let c : at n cB x j ≡ at n cA (σ x) j = C.moved x j q pj ∙ ap (at n cA (σ x)) fixed in
          diagonal-at n j dj cB pj C.entries_b x p q
          ∙ ap₂ ◌⊖◌ (C.moved x x q q) (ap (λ (v : Float). square v ⊘ dj) c)
          ∙ sym (diagonal-at n j dj cA pj C.entries_a (σ x) (stays_after n j σ τ P f x p q) (P.to_high x (omega arith) q))

  -- theta has the same bits where the column is finite
  pub theta_moved : (cA cB : List Float) → Moved n σ cA cB → ((i : ℕ) → j < i → i < n → Double (at n cA i j)) → theta_of n j cA ≡ theta_of n j cB
  theta_moved cA cB C d =
      theta_is n j cA pj
      ∙ largest_magnitude_along (j + 1) n σ τ (λ i. at n cA i j) (λ i. at n cB i j) (omega arith) (bijection_from n (j + 1) σ τ P f)
      (λ i p q. C.moved i j q pj ∙ ap (at n cA (σ i)) fixed) (λ i p q. d i (omega arith) q)
      ∙ sym (theta_is n j cB pj)

-- ---- the start: c holds the diagonal of the matrix
module _ (n : ℕ) (a : List Float) where
  diagonal-start : Stored n 0 (λ i. i) (λ i. i) (λ i. at n a i i) (zeros (n * n)) n (start n a).c
  unfolding start
  diagonal-start = stored n 0 n (λ i. i) (λ i. i) (λ i m. at n a i i) (λ i. at n a i i) (zeros (n * n)) (omega arith) (length-replicate (n * n) plus_zero)
      (λ i p q. q) (λ i p q. q) (λ i k p q u w e f. e) (λ i p q m r. refl)

  pub start-entries : Entries n (start n a).c
  start-entries = diagonal-start.entries

  pub start-at : (x : ℕ) → x < n → at n (start n a).c x x ≡ at n a x x
  start-at x px = diagonal-start.done x (omega arith) px

  start-other : (x y : ℕ) → x < n → y < n → (x ≡ y → ⊥) → at n (start n a).c x y ≡ plus_zero
  start-other x y px py h = diagonal-start.rest x y px py (λ k u w e f. h (e ∙ sym f)) ∙ get_or-replicate (n * n) (x * n + y) plus_zero nan (cell_lt n x y px py)

pub start-moved : (n : ℕ) (σ τ : ℕ → ℕ) (A B : List Float) → Bijection 0 n σ τ → Moved n σ A B → Moved n σ (start n A).c (start n B).c
start-moved n σ τ A B P M = record {
  entries_a = start-entries n A;
  entries_b = start-entries n B;
  moved = λ x y px py. elim (ℕ_discrete x y) [
    | yes e ↦ ap (at n (start n B).c x) (sym e) ∙ start-at n B x px ∙ M.moved x x px px ∙ sym (start-at n A (σ x) (P.to_high x (omega arith) px)) ∙ ap (at n (start n A).c (σ x)) (ap σ e)
    | no d ↦ start-other n B x y px py d ∙ sym (start-other n A (σ x) (σ y) (P.to_high x (omega arith) px) (P.to_high y (omega arith) py)
        (λ e. d (injective P x y (omega arith) px (omega arith) py e)))
  ];
}
