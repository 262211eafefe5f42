-- The elimination of a symmetric matrix row by row, on and below the diagonal: its invariants, and that it comes to `eliminate`.
use mathlib.Core.Path.{◌≡◌, refl, sym, ap, ap₂, ◌∙◌}
use mathlib.Core.List.{List}
use mathlib.Core.Bool.{Bool, true, ◌&&◌}
use Prim.Native.Nat.{ℕ, ◌+◌, ◌*◌, ◌≤◌, ◌<◌}
use native.Mathlib.Decide.{ℕ_discrete, dec_lt}
use native.Mathlib.Numerals.{add-one}
use native.Mathlib.Omega.{arith}
use lib.ListN.{get_or, set}
use lib.Ieee.{Float, nan}
use lib.Ieee.Scale.{finite}
use Rattle.arithmetic.specs.All.{all}
use Rattle.arithmetic.proofs.AllLaws.{and_test, all-each, all_true}
use Rattle.arithmetic.specs.Double.{◌⊖◌, ◌⊗◌, ◌⊘◌}
use Rattle.arithmetic.proofs.LoopLaws.{range_none, range-more}
use Rattle.arithmetic.proofs.OrderLaws.{and_1, and_2}
use Rattle.arithmetic.specs.Sqrt.{sqrt}
use Rattle.matrix.specs.Matrix.{at, put}
use Rattle.matrix.proofs.EntryLaws.{Entries, at_put_same, at_put_other}
use Rattle.arithmetic.proofs.Cases.{same_tests}
use Rattle.methods.specs.Statements.{block_finite, eliminate}
use Rattle.methods.specs.Elimination.{mirrored, CellsWritten, RowWritten, ColumnWritten, RowsEliminated, subtracted}
use Rattle.methods.proofs.Tests.{all_same}
use Rattle.methods.proofs.Moved.{block_each, block_true}
use Rattle.methods.proofs.Mirrored.{mirrored-entries, mirrored-lower, mirrored-upper, mirrored-symmetric, is_mirrored}
use Rattle.methods.proofs.Stored.{stored-none, stored_more}
use Rattle.methods.proofs.Eliminated.{eliminated, eliminate-at, eliminate-entries, eliminate-symmetric, low_row, low_column, corner, in_column, inside, Side, side, before, is_j, after}

-- ---- a test of each position, one more of them
all_none : (a : ℕ) (test : ℕ → Bool) → true ≡ all a a test
unfolding all
all_none a test = sym (range_none a a (and_test test) true (omega arith))

all_more : (a k : ℕ) (test : ℕ → Bool) (ok ok' : Bool) → a ≤ k → ok ≡ all a k test → ok' ≡ (ok && test k) → ok' ≡ all a (k + 1) test
unfolding all
all_more a k test ok ok' h e g = g ∙ ap (λ (b : Bool). b && test k) e ∙ sym (range-more a k (and_test test) true h)

-- ---- cells of a row or a column
module _ (n a : ℕ) (row column : ℕ → ℕ) (f : ℕ → Float) (m : List Float) where
  pub cells_start : Entries n m → CellsWritten n a row column f m a m true
  cells_start h = record { stored = stored-none n a row column f m h; tested = all_none a (λ k. finite (f k)) }

  pub cells_end : (k b : ℕ) (l : List Float) (ok : Bool) → k ≤ b → b ≤ k → CellsWritten n a row column f m k l ok → CellsWritten n a row column f m b l ok
  cells_end k b l ok p q R = let e : k ≡ b = omega arith in rw e at R

  module _ (apart : (i k : ℕ) → row i ≡ row k → column i ≡ column k → i ≡ k) (k : ℕ) (ak : a ≤ k) (pr : row k < n) (pc : (i : ℕ) → i ≤ k → column i < n) where
    earlier : (i : ℕ) → i < k → i ≡ k → ⊥
    earlier i w d = omega arith

    cells_more : (l l' : List Float) (v : Float) (ok ok' : Bool) → CellsWritten n a row column f m k l ok → l' ≡ put n l (row k) (column k) v → v ≡ f k → ok' ≡ (ok && finite v)
        → CellsWritten n a row column f m (k + 1) l' ok'
    cells_more l l' v ok ok' R e g t =
        let s = stored_more n a row column f m k l v ak pr (pc k (omega arith)) (λ i u w. pc i (omega arith)) (λ i u w b d. earlier i w (apart i k b d)) R.stored g in
        rw e (record { stored = rw add-one s; tested = all_more a k (λ i. finite (f i)) ok ok' ak R.tested (t ∙ ap (λ (z : Float). ok && finite z) g) })

    -- the next place, at cell q, becomes op of what stands there
    pub cells_turn : (q : ℕ) (l : List Float) (op : Float → Float) (ok ok' : Bool) → q ≡ row k * n + column k → op (at n m (row k) (column k)) ≡ f k → CellsWritten n a row column f m k l ok
        → ok' ≡ (ok && finite (op (get_or l q nan))) → (op (get_or l q nan) ≡ f k) × CellsWritten n a row column f m (k + 1) (set l q (op (get_or l q nan))) ok'
    cells_turn q l op ok ok' here is_f R t =
        let v = op (get_or l q nan) in
        let kept : at n l (row k) (column k) ≡ at n m (row k) (column k) = R.stored.rest (row k) (column k) pr (pc k (omega arith)) (λ i p w c d. earlier i w (sym (apart k i c d))) in
        let e : v ≡ f k = ap (λ (z : ℕ). op (get_or l z nan)) here ∙ ap op kept ∙ is_f in
        (e, cells_more l (set l q v) v ok ok' R (ap (λ (z : ℕ). set l z v) here) e t)

-- ---- the rows after j
module _ (n j : ℕ) (c m : List Float) where
  pub rows_start : Entries n m → RowsEliminated n j c m (j + 1) m true
  rows_start h = record {
    entries = h;
    done = λ x y p q u w. absurd (omega arith);
    rest = λ x y px py k. refl;
    tested = all_none (j + 1) (λ x. all (j + 1) (x + 1) (λ y. finite (subtracted n m c x y)));
  }

  module _ (i : ℕ) (l l' : List Float) (ok : Bool) (ji : j < i) (pi : i < n) (R : RowsEliminated n j c m i l ok) where
    value : (y : ℕ) → j < y → y ≤ i → subtracted n l c i y ≡ subtracted n m c i y
    value y p q = ap (λ (v : Float). v ⊖ get_or c i nan ⊗ get_or c y nan) (R.rest i y pi (omega arith) (λ u w z o. omega arith))

    pub rows_more : (ok₂ ok' : Bool) → RowWritten n i (j + 1) (subtracted n l c i) l (i + 1) l' ok₂ → ok' ≡ (ok && ok₂) → RowsEliminated n j c m (i + 1) l' ok'
    rows_more ok₂ ok' W t = record {
      entries = W.stored.entries;
      done = λ x y p q u w. elim (ℕ_discrete x i) [
        | yes d ↦ rw d (W.stored.done y (omega arith) (omega arith) ∙ value y u (omega arith))
        | no d ↦ W.stored.rest x y (omega arith) (omega arith) (λ k a b z o. d z) ∙ R.done x y p (omega arith) u w
      ];
      rest = λ x y px py h. W.stored.rest x y px py (λ k a b z o. h (omega arith) (omega arith) (omega arith) (omega arith)) ∙ R.rest x y px py (λ u p q o. h u (omega arith) q o);
      tested = all_more (j + 1) i (λ x. all (j + 1) (x + 1) (λ y. finite (subtracted n m c x y))) ok ok' (omega arith) R.tested
          (t ∙ ap (λ (b : Bool). ok && b) (W.tested ∙ all_same (j + 1) (i + 1) (λ y. finite (subtracted n l c i y)) (λ y. finite (subtracted n m c i y)) (omega arith) (λ y p q. ap finite (value y (omega arith) (omega arith)))));
    }

  pub rows_end : (k : ℕ) (l : List Float) (ok : Bool) → k ≤ n → n ≤ k → RowsEliminated n j c m k l ok → RowsEliminated n j c m n l ok
  rows_end k l ok p q R = let e : k ≡ n = omega arith in rw e at R

-- ---- the whole elimination: m, with the root, with column j divided, with the rows after j done
module _ (n j : ℕ) (m l₁ l₂ l₃ c : List Float) (r : Float) (ok₂ ok₃ : Bool) (pj : j < n) (h : Entries n m) (er : r ≡ sqrt (at n m j j)) (e : l₁ ≡ put n m j j r)
    (W : ColumnWritten n j (j + 1) (λ x. at n l₁ x j ⊘ r) l₁ n l₂ ok₂) (C : (x : ℕ) → j + 1 ≤ x → x < n → get_or c x nan ≡ at n l₁ x j ⊘ r) (R : RowsEliminated n j c l₂ n l₃ ok₃) where
  abbrev M : List Float
  M = mirrored n m

  rooted : (x y : ℕ) → x < n → y ≤ x → (x ≡ j → y ≡ j → ⊥) → at n l₁ x y ≡ at n M x y
  rooted x y px yx k = rw e (at_put_other n m j j x y r pj (omega arith) k ∙ sym (mirrored-lower n m x y px yx))

  root-at : at n l₁ j j ≡ r
  root-at = rw e (at_put_same n m j j r h pj pj)

  quotient : (x : ℕ) → j < x → x < n → at n l₁ x j ⊘ r ≡ at n M x j ⊘ r
  quotient x p q = ap (λ (v : Float). v ⊘ r) (rooted x j q (omega arith) (λ u w. omega arith))

  corner_j : at n l₃ j j ≡ r
  corner_j = R.rest j j pj pj (λ u w z o. omega arith) ∙ W.stored.rest j j pj pj (λ k u w z o. omega arith) ∙ root-at

  column-at : (x : ℕ) → j < x → x < n → at n l₃ x j ≡ at n l₁ x j ⊘ r
  column-at x p q = R.rest x j q pj (λ u w z o. omega arith) ∙ W.stored.done x (omega arith) q

  outside : (x y : ℕ) → x < n → y ≤ x → (j ≤ x → j ≤ y → ⊥) → at n l₃ x y ≡ at n M x y
  outside x y px yx k =
      R.rest x y px (omega arith) (λ u w z o. k (omega arith) (omega arith)) ∙ W.stored.rest x y px (omega arith) (λ i u w z o. k (omega arith) (omega arith)) ∙ rooted x y px yx (λ u w. k (omega arith) (omega arith))

  block : (x y : ℕ) → j < y → y ≤ x → x < n → at n l₃ x y ≡ at n M x y ⊖ (at n M x j ⊘ r) ⊗ (at n M y j ⊘ r)
  block x y p yx px =
      R.done x y (omega arith) px p yx
      ∙ ap₂ ◌⊖◌ (W.stored.rest x y px (omega arith) (λ k u w z o. omega arith) ∙ rooted x y px yx (λ u w. omega arith))
      (ap₂ ◌⊗◌ (C x (omega arith) px ∙ quotient x (omega arith) px) (C y (omega arith) (omega arith) ∙ quotient y p (omega arith)))

  each : (x y : ℕ) → x < n → y ≤ x → at n l₃ x y ≡ eliminated (at n M) j r x y
  each x y px yx = go (side j x) (side j y)
    where
      go : Side j x → Side j y → at n l₃ x y ≡ eliminated (at n M) j r x y
      go (before p) b = outside x y px yx (λ u w. omega arith) ∙ sym (low_row (at n M) j r x y p)
      go (is_j p) (before q) = outside x y px yx (λ u w. omega arith) ∙ sym (low_column (at n M) j r x y q)
      go (is_j p) (is_j q) = rw (p, q) (corner_j ∙ sym (corner (at n M) j r j j refl refl))
      go (is_j p) (after q) = absurd (omega arith)
      go (after p) (before q) = outside x y px yx (λ u w. omega arith) ∙ sym (low_column (at n M) j r x y q)
      go (after p) (is_j q) = rw q (column-at x p px ∙ quotient x p px ∙ sym (in_column (at n M) j r x j p refl))
      go (after p) (after q) = block x y q yx px ∙ sym (inside (at n M) j r x y p q)

  root_is : r ≡ sqrt (at n M j j)
  root_is = er ∙ ap sqrt (sym (mirrored-lower n m j j pj (omega arith)))

  is_eliminate : mirrored n l₃ ≡ eliminate n j M
  is_eliminate = is_mirrored n l₃ (eliminate n j M) (eliminate-entries n j M pj entries_m symmetric_m) (record { same = eliminate-symmetric n j M pj entries_m symmetric_m })
      (λ x y px yx. each x y px yx ∙ ap (λ (z : Float). eliminated (at n M) j z x y) root_is ∙ sym (eliminate-at n j M pj entries_m symmetric_m x y px (omega arith)))
    where
      entries_m : Entries n M
      entries_m = mirrored-entries n m

      symmetric_m : (x y : ℕ) → x < n → y < n → at n M x y ≡ at n M y x
      symmetric_m = (mirrored-symmetric n m).same

  -- ---- what is stored is finite where the tests say so
  column-tested : (x : ℕ) → j < x → x < n → ok₂ ≡ true → finite (at n l₁ x j ⊘ r) ≡ true
  column-tested x p q t = all-each (j + 1) n (λ k. finite (at n l₁ k j ⊘ r)) (omega arith) (sym W.tested ∙ t) x (omega arith) q

  block_tested : (x y : ℕ) → j < y → y ≤ x → x < n → ok₃ ≡ true → finite (subtracted n l₂ c x y) ≡ true
  block_tested x y p yx px t = all-each (j + 1) (x + 1) (λ k. finite (subtracted n l₂ c x k)) (omega arith)
      (all-each (j + 1) n (λ i. all (j + 1) (i + 1) (λ k. finite (subtracted n l₂ c i k))) (omega arith) (sym R.tested ∙ t) x (omega arith) px) y (omega arith) (omega arith)

  lower-finite : finite r ≡ true → ok₂ ≡ true → ok₃ ≡ true → (x y : ℕ) → j ≤ y → y ≤ x → x < n → finite (at n l₃ x y) ≡ true
  lower-finite fr f₂ f₃ x y jy yx px = elim (ℕ_discrete y j) [
    | yes q ↦ elim (ℕ_discrete x j) [ yes p ↦ rw (p, q) (ap finite corner_j ∙ fr) | no p ↦ rw q (ap finite (column-at x (omega arith) px) ∙ column-tested x (omega arith) px f₂) ]
    | no q ↦ ap finite (R.done x y (omega arith) px (omega arith) yx) ∙ block_tested x y (omega arith) yx px f₃
  ]

  all-finite : finite r ≡ true → ok₂ ≡ true → ok₃ ≡ true → (x y : ℕ) → j ≤ x → x < n → j ≤ y → y < n → finite (at n (mirrored n l₃) x y) ≡ true
  all-finite fr f₂ f₃ x y jx px jy py = elim (dec_lt x y) [
    | yes p ↦ ap finite (mirrored-upper n l₃ x y py (omega arith)) ∙ lower-finite fr f₂ f₃ y x jx (omega arith) py
    | no p ↦ ap finite (mirrored-lower n l₃ x y px (omega arith)) ∙ lower-finite fr f₂ f₃ x y jy (omega arith) px
  ]

  module _ (b : block_finite n j (mirrored n l₃) ≡ true) where
    at_finite : (x y : ℕ) → j ≤ y → y ≤ x → x < n → finite (at n l₃ x y) ≡ true
    at_finite x y jy yx px = ap finite (sym (mirrored-lower n l₃ x y px yx)) ∙ block_each n j (mirrored n l₃) (omega arith) b x y (omega arith) px jy (omega arith)

    root-finite : finite r ≡ true
    root-finite = ap finite (sym corner_j) ∙ at_finite j j (omega arith) (omega arith) pj

    column-finite : ok₂ ≡ true
    column-finite = W.tested ∙ all_true (j + 1) n (λ x. finite (at n l₁ x j ⊘ r)) (omega arith)
        (λ x p q. ap finite (sym (column-at x (omega arith) q)) ∙ at_finite x j (omega arith) (omega arith) q)

    rows-finite : ok₃ ≡ true
    rows-finite = R.tested ∙ all_true (j + 1) n (λ x. all (j + 1) (x + 1) (λ y. finite (subtracted n l₂ c x y))) (omega arith)
        (λ x p px. all_true (j + 1) (x + 1) (λ y. finite (subtracted n l₂ c x y)) (omega arith)
        (λ y q py. ap finite (sym (R.done x y (omega arith) px (omega arith) (omega arith))) ∙ at_finite x y (omega arith) (omega arith) px))

  is_tested : (finite r && ok₂ && ok₃) ≡ block_finite n j (mirrored n l₃)
  is_tested = same_tests (finite r && ok₂ && ok₃) (block_finite n j (mirrored n l₃))
      (λ t. block_true n j (mirrored n l₃) (omega arith) (all-finite (and_1 (finite r) ok₂ (and_1 (finite r && ok₂) ok₃ t)) (and_2 (finite r) ok₂ (and_1 (finite r && ok₂) ok₃ t)) (and_2 (finite r && ok₂) ok₃ t)))
      (λ b. rw (root-finite b, column-finite b, rows-finite b))

  pub rows-eliminate : (mirrored n l₃ ≡ eliminate n j M) × ((finite r && ok₂ && ok₃) ≡ block_finite n j (mirrored n l₃))
  rows-eliminate = (is_eliminate, is_tested)
