-- The scaled factor of GMW81, from the roots of d in place of dout.
use mathlib.Core.Path.{◌≡◌, refl, sym, ap, ap₂, ◌∙◌, subst}
use mathlib.Core.Bool.{Bool, true, cond, ◌&&◌}
use mathlib.Core.List.{List}
use Prim.Native.Nat.{ℕ, suc, ◌+◌, ◌*◌, ◌/◌, ◌%◌, ◌≤◌, ◌<◌}
use native.Mathlib.Decide.{ℕ_discrete}
use native.Mathlib.Nat.{div-lt_iff_lt-mul}
use native.Mathlib.Omega.{arith}
use borrow.Author.Tests.{eq-eqb, ne_eqb}
use lib.Arith.{digits_div, digits_mod}
use lib.ListN.{length, get_or}
use lib.Dec.{eqb}
use lib.Ieee.{Float, nan, binary64}
use lib.Ieee.Fits.{mul-fits}
use lib.Ieee.Scale.{finite}
use Rattle.arithmetic.specs.All.{all}
use Rattle.arithmetic.proofs.AllLaws.{all-each, all_true}
use Rattle.arithmetic.specs.Double.{plus_zero, ◌⊕◌, ◌⊗◌}
use Rattle.arithmetic.specs.Loop.{range}
use Rattle.arithmetic.proofs.LoopLaws.{range-ind}
use Rattle.arithmetic.specs.Sqrt.{sqrt}
use Rattle.arithmetic.proofs.Zeros.{times_zero}
use Rattle.arithmetic.proofs.OneTerm.{one-term}
use Rattle.matrix.specs.Checks.{AllFinite}
use Rattle.matrix.specs.Matrix.{at, put}
use Rattle.matrix.proofs.CellLaws.{cell_lt}
use Rattle.matrix.specs.Table.{table}
use Rattle.matrix.proofs.TableLaws.{length-table, get_or-table}
use Rattle.arithmetic.proofs.Cases.{same_tests}
use Rattle.matrix.proofs.EntryLaws.{Entries, same_entries}
use Rattle.methods.specs.Gmw81.{dout_of, product, scaled_finite}
use Rattle.methods.specs.Elimination.{Stored}
use Rattle.methods.proofs.Stored.{stored}
use Rattle.methods.proofs.FiniteEntries.{zero_finite}

-- ---- the product
product_at : (n : ℕ) (a b : List Float) (x y : ℕ) → x < n → y < n → at n (product n a b) x y ≡ range 0 n (λ t sum. sum ⊕ at n a x t ⊗ at n b t y) plus_zero
unfolding product
product_at n a b x y px py =
    get_or-table (n * n) (λ k. range 0 n (λ t sum. sum ⊕ at n a (k / n) t ⊗ at n b t (k % n)) plus_zero) (x * n + y) nan (cell_lt n x y px py)
    ∙ ap₂ (λ (i k : ℕ). range 0 n (λ t sum. sum ⊕ at n a i t ⊗ at n b t k) plus_zero) (digits_div x py) (digits_mod x py)

pub product-entries : (n : ℕ) (a b : List Float) → Entries n (product n a b)
unfolding product
product-entries n a b = length-table (n * n) (λ k. range 0 n (λ t sum. sum ⊕ at n a (k / n) t ⊗ at n b t (k % n)) plus_zero)

abbrev diagonal_or : List Float → ℕ → ℕ → Float
diagonal_or d x y = cond (eqb x y) (sqrt (get_or d x nan)) plus_zero

dout_is : (n : ℕ) (d : List Float) (k : ℕ) → k < n * n → get_or (dout_of n d) k nan ≡ diagonal_or d (k / n) (k % n)
unfolding dout_of
dout_is n d k h = get_or-table (n * n) (λ x. diagonal_or d (x / n) (x % n)) k nan h

dout_at : (n : ℕ) (d : List Float) (x y : ℕ) → x < n → y < n → at n (dout_of n d) x y ≡ diagonal_or d x y
dout_at n d x y px py = dout_is n d (x * n + y) (cell_lt n x y px py) ∙ ap₂ (diagonal_or d) (digits_div x py) (digits_mod x py)

root-at : (n : ℕ) (d r : List Float) (i : ℕ) → r ≡ table n (λ k. sqrt (get_or d k nan)) → i < n → get_or r i nan ≡ sqrt (get_or d i nan)
root-at n d r i e h = ap (λ (l : List Float). get_or l i nan) e ∙ get_or-table n (λ k. sqrt (get_or d k nan)) i nan h

pub dout_root : (n : ℕ) (d : List Float) (i : ℕ) → i < n → at n (dout_of n d) i i ≡ sqrt (get_or d i nan)
dout_root n d i h = dout_at n d i i h h ∙ ap (λ (b : Bool). cond b (sqrt (get_or d i nan)) plus_zero) (eq-eqb i i refl)

-- where l is finite, the terms of an entry's sum are zeros but for that of its own column
pub scaled_at : (n : ℕ) (l d : List Float) → AllFinite n l → (x y : ℕ) → x < n → y < n → at n (product n l (dout_of n d)) x y ≡ plus_zero ⊕ at n l x y ⊗ sqrt (get_or d y nan)
scaled_at n l d F x y px py =
    product_at n l (dout_of n d) x y px py
    ∙ one-term n y (λ t. at n l x t ⊗ at n (dout_of n d) t y) py (mul-fits binary64 (at n l x y) (at n (dout_of n d) y y))
    (λ t h e. rw (dout_at n d t y h py, ne_eqb t y e) (times_zero (at n l x t) (F x t px h)))
    ∙ ap (λ (v : Float). plus_zero ⊕ at n l x y ⊗ v) (dout_root n d y py)

-- ---- the columns times the roots, row by row
module _ (n : ℕ) (r : List Float) where
  abbrev pub scale_row : ℕ → List Float → List Float
  scale_row i m = range 0 n (λ k m'. put n m' i k (plus_zero ⊕ at n m' i k ⊗ get_or r k nan)) m

  -- rows 0 to t - 1 are done, and the others are l's
  record RowsScaled (l : List Float) (t : ℕ) (m : List Float) : Type 0 where
    entries : Entries n m
    done : (x y : ℕ) → x < t → y < n → at n m x y ≡ plus_zero ⊕ at n l x y ⊗ get_or r y nan
    rest : (x y : ℕ) → t ≤ x → x < n → y < n → at n m x y ≡ at n l x y

  row_scaled : (l : List Float) (i : ℕ) → i < n → (m : List Float) → RowsScaled l i m → RowsScaled l (suc i) (scale_row i m)
  row_scaled l i pi m R = record {
    entries = S.entries;
    done = λ x y px py. elim (ℕ_discrete x i) [
      | yes e ↦ rw e (S.done y (omega arith) py)
      | no e ↦ S.rest x y (omega arith) py (λ k u w g h. e g) ∙ R.done x y (omega arith) py
    ];
    rest = λ x y h px py. S.rest x y px py (λ k u w g f. omega arith) ∙ R.rest x y (omega arith) px py;
  }
    where
      S : Stored n 0 (λ k. i) (λ k. k) (λ k. plus_zero ⊕ at n l i k ⊗ get_or r k nan) m n (scale_row i m)
      S = stored n 0 n (λ k. i) (λ k. k) (λ k m'. plus_zero ⊕ at n m' i k ⊗ get_or r k nan) (λ k. plus_zero ⊕ at n l i k ⊗ get_or r k nan) m (omega arith) R.entries
          (λ k p q. pi) (λ k p q. q) (λ k k' p q u w e g. g)
          (λ k p q m' f. ap (λ (v : Float). plus_zero ⊕ v ⊗ get_or r k nan) (f i k pi q (λ k' u w g h. omega arith) ∙ R.rest i k (omega arith) pi q))

  rows-scaled : (l : List Float) → Entries n l → RowsScaled l n (range 0 n scale_row l)
  rows-scaled l h = range-ind (RowsScaled l) 0 n scale_row l (omega arith)
      (record { entries = h; done = λ x y px. absurd (omega arith); rest = λ x y p px py. refl }) (λ i p q m R. row_scaled l i q m R)

pub scaled_is : (n : ℕ) (l r d : List Float) → r ≡ table n (λ i. sqrt (get_or d i nan)) → Entries n l → AllFinite n l → range 0 n (scale_row n r) l ≡ product n l (dout_of n d)
scaled_is n l r d e h F =
    let R = rows-scaled n r l h in
    same_entries n (range 0 n (scale_row n r) l) (product n l (dout_of n d)) R.entries (product-entries n l (dout_of n d)) (λ x y px py.
    R.done x y px py ∙ ap (λ (v : Float). plus_zero ⊕ at n l x y ⊗ v) (root-at n d r y e py) ∙ sym (scaled_at n l d F x y px py))

-- ---- dout's entries are finite where the roots are
module _ (n : ℕ) (d r : List Float) (pn : 0 < n) (e : r ≡ table n (λ i. sqrt (get_or d i nan))) where
  to_dout : ((i : ℕ) → i < n → finite (get_or r i nan) ≡ true) → (k : ℕ) → k < n * n → finite (get_or (dout_of n d) k nan) ≡ true
  to_dout f k h = elim (ℕ_discrete (k / n) (k % n)) [
    | yes q ↦
        let l : k / n < n = (div-lt_iff_lt-mul pn).1 h in
        rw (dout_is n d k h, eq-eqb (k / n) (k % n) q) (subst (λ (v : Float). finite v ≡ true) (root-at n d r (k / n) e l) (f (k / n) l))
    | no q ↦ rw (dout_is n d k h, ne_eqb (k / n) (k % n) q) zero_finite
  ]

  from-dout : ((k : ℕ) → k < n * n → finite (get_or (dout_of n d) k nan) ≡ true) → (i : ℕ) → i < n → finite (get_or r i nan) ≡ true
  from-dout f i h =
      let g : at n (dout_of n d) i i ≡ get_or r i nan = dout_root n d i h ∙ sym (root-at n d r i e h) in
      subst (λ (v : Float). finite v ≡ true) g (f (i * n + i) (cell_lt n i i h h))

  roots_finite : all 0 n (λ i. finite (get_or r i nan)) ≡ all 0 (n * n) (λ k. finite (get_or (dout_of n d) k nan))
  roots_finite = same_tests _ _
      (λ a. all_true 0 (n * n) (λ k. finite (get_or (dout_of n d) k nan)) (omega arith) (λ k p q. to_dout (λ i h. all-each 0 n (λ i. finite (get_or r i nan)) (omega arith) a i (omega arith) h) k q))
      (λ a. all_true 0 n (λ i. finite (get_or r i nan)) (omega arith) (λ i p q. from-dout (λ k h. all-each 0 (n * n) (λ k. finite (get_or (dout_of n d) k nan)) (omega arith) a k (omega arith) h) i q))

  pub scaled_finite_is : (l : List Float) → length l ≡ n * n
      → (all 0 (length r) (λ i. finite (get_or r i nan)) && all 0 (length l) (λ k. finite (get_or l k nan))) ≡ scaled_finite n (dout_of n d) l
  unfolding scaled_finite
  scaled_finite_is l h =
      let k : length r ≡ n = ap length e ∙ length-table n (λ i. sqrt (get_or d i nan)) in
      rw (k, h, roots_finite)
