-- The symmetric matrix that stands on and below the diagonal of a matrix: its entries, and that what SE90 and SE99 read is the same of both.
use mathlib.Core.Path.{◌≡◌, refl, sym, ap, ◌∙◌}
use mathlib.Core.List.{List}
use mathlib.Core.Bool.{true, false, cond}
use Prim.Native.Nat.{ℕ, ◌+◌, ◌*◌, ◌/◌, ◌%◌, ◌≤◌, ◌<◌}
use native.Mathlib.Decide.{ℕ_discrete, dec_lt}
use native.Mathlib.Omega.{arith}
use borrow.Author.Tests.{le-leb, lt-leb}
use lib.Arith.{digits_div, digits_mod}
use lib.ListN.{get_or, set}
use lib.Seq.{ext_get_or}
use lib.Dec.{leb}
use lib.Ieee.{Float, nan, inf, lt}
use Rattle.arithmetic.specs.Double.{plus_zero, one, ◌⊕◌, ◌⊖◌, ◌⊗◌, ◌⊘◌, abs}
use Rattle.arithmetic.specs.Loop.{range}
use Rattle.arithmetic.proofs.LoopLaws.{range2_ind}
use Rattle.matrix.specs.Matrix.{at, put}
use Rattle.matrix.proofs.CellLaws.{cell_lt}
use Rattle.matrix.specs.Table.{table}
use Rattle.matrix.proofs.TableLaws.{length-table, get_or-table}
use Rattle.matrix.proofs.EntryLaws.{Entries, put_entries, at_put_same, at_put_other, same_entries}
use Rattle.methods.specs.Statements.{diagonal, lower_triangle}
use Rattle.methods.specs.Elimination.{Symmetric, mirrored}
use Rattle.methods.specs.Se.{Run, state, lowered, fold_next, tmp_of, aii_max, aii_min, leaves_before, leaves_after, magnitude_sum, row_sum, column_sum, bounds, update_bounds}
use Rattle.methods.specs.declared.progress.Progress.{Progress}
use Rattle.methods.specs.declared.schnabel_eskow.Tolerances.{Tolerances}
use Rattle.methods.specs.declared.schnabel_eskow.Variant.{Variant}
use Rattle.methods.specs.declared.schnabel_eskow.Variant.TheVariants.{Se90, Se99}
use Rattle.methods.proofs.FiniteEntries.{triangle_same}

-- ---- tables of the same values
table_same : (k : ℕ) (f g : ℕ → Float) → ((i : ℕ) → i < k → f i ≡ g i) → table k f ≡ table k g
table_same k f g e = ext_get_or nan (table k f) (table k g) (length-table k f ∙ sym (length-table k g))
    (λ i p. let q : i < k = omega (arith, length-table k f) in get_or-table k f i nan q ∙ e i q ∙ sym (get_or-table k g i nan q))

-- ---- its entries
module _ (n : ℕ) (m : List Float) where
  abbrev entry_at : ℕ → Float
  entry_at k = cond (leb (k % n) (k / n)) (at n m (k / n) (k % n)) (at n m (k % n) (k / n))

  pub mirrored-entries : Entries n (mirrored n m)
  unfolding mirrored
  mirrored-entries = length-table (n * n) entry_at

  entry : (x y : ℕ) → x < n → y < n → at n (mirrored n m) x y ≡ cond (leb y x) (at n m x y) (at n m y x)
  unfolding mirrored
  entry x y px py =
      get_or-table (n * n) entry_at (x * n + y) nan (cell_lt n x y px py)
      ∙ rw (digits_div x py, digits_mod x py)

  pub mirrored-lower : (x y : ℕ) → x < n → y ≤ x → at n (mirrored n m) x y ≡ at n m x y
  mirrored-lower x y px h = entry x y px (omega arith) ∙ rw (le-leb y x h)

  pub mirrored-upper : (x y : ℕ) → y < n → x ≤ y → at n (mirrored n m) x y ≡ at n m y x
  mirrored-upper x y py h = elim (ℕ_discrete x y) [
    | yes e ↦ rw e (mirrored-lower y y py (omega arith))
    | no e ↦ entry x y (omega arith) py ∙ rw (lt-leb y x (omega arith))
  ]

  pub mirrored-symmetric : Symmetric n (mirrored n m)
  mirrored-symmetric = record {
    same = λ x y px py. elim (dec_lt x y) [
      | yes p ↦ mirrored-upper x y py (omega arith) ∙ sym (mirrored-lower y x py (omega arith))
      | no p ↦ mirrored-lower x y px (omega arith) ∙ sym (mirrored-upper y x px (omega arith))
    ];
  }

  -- a symmetric matrix with m's entries on and below the diagonal is it
  pub is_mirrored : (s : List Float) → Entries n s → Symmetric n s → ((x y : ℕ) → x < n → y ≤ x → at n m x y ≡ at n s x y) → mirrored n m ≡ s
  is_mirrored s h S e = same_entries n (mirrored n m) s mirrored-entries h (λ x y px py. elim (dec_lt x y) [
    | yes p ↦ mirrored-upper x y py (omega arith) ∙ e y x py (omega arith) ∙ S.same y x py px
    | no p ↦ mirrored-lower x y px (omega arith) ∙ e x y px (omega arith)
  ])

pub mirrored-same : (n : ℕ) (m : List Float) → Entries n m → Symmetric n m → mirrored n m ≡ m
mirrored-same n m h S = is_mirrored n m m h S (λ x y px p. refl)

pub mirrored-triangle : (n : ℕ) (m : List Float) → Entries n m → lower_triangle n (mirrored n m) ≡ lower_triangle n m
mirrored-triangle n m h = triangle_same n (mirrored n m) m (mirrored-entries n m) h (mirrored-lower n m)

pub lowered-mirrored : (n : ℕ) (l e g : List Float) (p : List ℕ) (q : Progress) (s : Run) → Entries n l → state (mirrored n l) e g p q ≡ s → lowered n (state l e g p q) ≡ lowered n s
lowered-mirrored n l e g p q s h k = rw (← mirrored-triangle n l h) (ap (lowered n) k)

-- ---- a store on the diagonal
module _ (n i : ℕ) (m : List Float) (v : Float) (p : i < n) (h : Entries n m) where
  put-symmetric : Symmetric n (put n (mirrored n m) i i v)
  put-symmetric = record {
    same = λ x y px py. elim (ℕ_discrete x y) [ yes e ↦ rw e | no e ↦ kept x y py e ∙ (mirrored-symmetric n m).same x y px py ∙ sym (kept y x px (λ d. e (sym d))) ];
  }
    where
      kept : (x y : ℕ) → y < n → (x ≡ y → ⊥) → at n (put n (mirrored n m) i i v) x y ≡ at n (mirrored n m) x y
      kept x y py d = at_put_other n (mirrored n m) i i x y v p py (λ a b. d (a ∙ sym b))

  pub mirrored-put : mirrored n (put n m i i v) ≡ put n (mirrored n m) i i v
  mirrored-put = is_mirrored n (put n m i i v) (put n (mirrored n m) i i v) (put_entries n (mirrored n m) i i v (mirrored-entries n m)) put-symmetric
      (λ x y px yx. elim (ℕ_discrete x i) [
        | yes a ↦ elim (ℕ_discrete y i) [
          | yes b ↦ rw (a, b) (at_put_same n m i i v h p p ∙ sym (at_put_same n (mirrored n m) i i v (mirrored-entries n m) p p))
          | no b ↦ apart x y px yx (λ u w. b w)
        ]
        | no a ↦ apart x y px yx (λ u w. a u)
      ])
    where
      apart : (x y : ℕ) → x < n → y ≤ x → (x ≡ i → y ≡ i → ⊥) → at n (put n m i i v) x y ≡ at n (put n (mirrored n m) i i v) x y
      apart x y px yx d = at_put_other n m i i x y v p (omega arith) d ∙ sym (mirrored-lower n m x y px yx) ∙ sym (at_put_other n (mirrored n m) i i x y v p (omega arith) d)

-- ---- what is read, on and below the diagonal, is the same
module _ (n : ℕ) (m : List Float) where
  on_diagonal : (i : ℕ) → i < n → at n (mirrored n m) i i ≡ at n m i i
  on_diagonal i p = mirrored-lower n m i i p (omega arith)

  -- a loop whose body reads the matrix
  loop_mirrored : {S : Type 0} (a b : ℕ) (body : List Float → ℕ → S → S) (s : S) → a ≤ b → ((i : ℕ) → a ≤ i → i < b → (t : S) → body (mirrored n m) i t ≡ body m i t)
      → range a b (body (mirrored n m)) s ≡ range a b (body m) s
  loop_mirrored a b body s h e = range2_ind (λ i t u. t ≡ u) a b (body (mirrored n m)) (body m) s s h refl (λ i p q t u k. ap (body (mirrored n m) i) k ∙ e i p q u)

  pub diagonal-mirrored : diagonal n (mirrored n m) ≡ diagonal n m
  unfolding diagonal
  diagonal-mirrored = table_same n (λ i. at n (mirrored n m) i i) (λ i. at n m i i) on_diagonal

  fold_next-mirrored : (j i : ℕ) (acc : Float) → j < i → i < n → fold_next n j (mirrored n m) i acc ≡ fold_next n j m i acc
  unfolding fold_next
  fold_next-mirrored j i acc p q = rw (on_diagonal i q, on_diagonal j (omega arith), mirrored-lower n m i j q (omega arith))

  tmp_of-mirrored : (j : ℕ) → j < n → tmp_of n j (mirrored n m) ≡ tmp_of n j m
  unfolding tmp_of
  tmp_of-mirrored j p = loop_mirrored (j + 1) n (fold_next n j) (inf false) (omega arith) (λ i u w t. fold_next-mirrored j i t (omega arith) w)

  aii_max-mirrored : (j : ℕ) → j < n → aii_max n j (mirrored n m) ≡ aii_max n j m
  unfolding aii_max
  aii_max-mirrored j p = loop_mirrored j n (λ l i acc. cond (lt acc (at n l i i)) (at n l i i) acc) (inf true) (omega arith) (λ i u w t. rw (on_diagonal i w))

  aii_min-mirrored : (j : ℕ) → j < n → aii_min n j (mirrored n m) ≡ aii_min n j m
  unfolding aii_min
  aii_min-mirrored j p = loop_mirrored j n (λ l i acc. cond (lt (at n l i i) acc) (at n l i i) acc) (inf false) (omega arith) (λ i u w t. rw (on_diagonal i w))

  pub leaves_before-mirrored : (v : Variant) (t : Tolerances) (gamma : Float) (j : ℕ) → j < n → leaves_before v t gamma n j (mirrored n m) ≡ leaves_before v t gamma n j m
  unfolding leaves_before
  leaves_before-mirrored Se90 t gamma j p = refl
  leaves_before-mirrored Se99 t gamma j p = rw (aii_max-mirrored j p, aii_min-mirrored j p)

  pub leaves_after-mirrored : (v : Variant) (t : Tolerances) (gamma : Float) (j : ℕ) → j < n → leaves_after v t gamma n j (mirrored n m) ≡ leaves_after v t gamma n j m
  unfolding leaves_after
  leaves_after-mirrored Se90 t gamma j p = rw (on_diagonal j p, tmp_of-mirrored j p)
  leaves_after-mirrored Se99 t gamma j p = rw (tmp_of-mirrored j p)

  row_sum-mirrored : (i a : ℕ) → i < n → a ≤ i → row_sum n (mirrored n m) i a i ≡ row_sum n m i a i
  unfolding row_sum magnitude_sum
  row_sum-mirrored i a p q = loop_mirrored a i (λ l t sum. sum ⊕ abs (at n l i t)) plus_zero q (λ t u w s. rw (mirrored-lower n m i t p (omega arith)))

  pub column_sum_mirrored : (i : ℕ) → i < n → column_sum n (mirrored n m) i (i + 1) n ≡ column_sum n m i (i + 1) n
  unfolding column_sum magnitude_sum
  column_sum_mirrored i p = loop_mirrored (i + 1) n (λ l t sum. sum ⊕ abs (at n l t i)) plus_zero (omega arith) (λ t u w s. rw (mirrored-lower n m t i w (omega arith)))

  pub bounds-mirrored : (k : ℕ) (g : List Float) → k ≤ n → bounds n k (mirrored n m) g ≡ bounds n k m g
  unfolding bounds
  bounds-mirrored k g p = loop_mirrored k n (λ l i h. set h i (at n l i i ⊖ row_sum n l i k i ⊖ column_sum n l i (i + 1) n)) g p (λ i u w h. rw (on_diagonal i w, row_sum-mirrored i k w u, column_sum_mirrored i w))

  abbrev add_to_bounds : ℕ → Float → List Float → ℕ → List Float → List Float
  add_to_bounds j normj l i h = set h i (get_or h i nan ⊕ abs (at n l i j) ⊗ (one ⊖ normj ⊘ at n l j j))

  pub update_bounds-mirrored : (j : ℕ) (normj : Float) (g : List Float) → j < n → update_bounds n j (mirrored n m) normj g ≡ update_bounds n j m normj g
  unfolding update_bounds
  update_bounds-mirrored j normj g p =
      let e : range (j + 1) n (add_to_bounds j normj (mirrored n m)) g ≡ range (j + 1) n (add_to_bounds j normj m) g =
      loop_mirrored (j + 1) n (add_to_bounds j normj) g (omega arith) (λ i u w h. rw (mirrored-lower n m i j w (omega arith), on_diagonal j p)) in
      rw (e, on_diagonal j p)
