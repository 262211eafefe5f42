-- The jth iteration of the factorization in SE90 and SE99: what stands at each place afterwards of a symmetric matrix, and that it goes
-- along with moved positions.
use mathlib.Core.Path.{◌≡◌, refl, sym, ap, ap₂, ◌∙◌, subst}
use mathlib.Core.List.{List}
use mathlib.Core.Bool.{cond}
use Prim.Native.Nat.{ℕ, suc, ◌+◌, ◌≤◌, ◌<◌, max}
use native.Mathlib.Decide.{ℕ_discrete, dec_lt}
use native.Mathlib.Omega.{arith}
use lib.Dec.{ltb, eqb}
use borrow.Author.Tests.{lt-ltb, le-ltb, eq-eqb, ne_eqb}
use lib.Ieee.{Float, binary64}
use Rattle.arithmetic.specs.Double.{◌⊖◌, ◌⊗◌, ◌⊘◌}
use Rattle.arithmetic.proofs.LoopLaws.{range-ind}
use Rattle.arithmetic.proofs.SameDoubles.{mul_commutes}
use Rattle.arithmetic.specs.Sqrt.{sqrt}
use Rattle.matrix.specs.Matrix.{at, put}
use Rattle.matrix.proofs.EntryLaws.{Entries, put_entries, at_put_same, at_put_other}
use Rattle.matrix.proofs.Bijection.{Bijection, Fixes, stays_after}
use Rattle.methods.specs.Statements.{eliminate_entry, divide_entries, eliminate_row, eliminate}
use Rattle.methods.proofs.Moved.{Moved}

-- ---- what is to stand at (x, y), of g before and the root r
unfoldable pub eliminated : (ℕ → ℕ → Float) → ℕ → Float → ℕ → ℕ → Float
eliminated g j r x y =
    cond (ltb x j) (g x y) (cond (ltb y j) (g x y)
    (cond (eqb x j) (cond (eqb y j) r (g x y ⊘ r)) (cond (eqb y j) (g x y ⊘ r) (g x y ⊖ (g x j ⊘ r) ⊗ (g y j ⊘ r)))))

-- where a position stands to j
pub data Side (j x : ℕ) : Type 0 where
  before : x < j → Side j x
  is_j : x ≡ j → Side j x
  after : j < x → Side j x

pub side : (j x : ℕ) → Side j x
side j x = elim (dec_lt x j) [ yes p ↦ before p | no q ↦ elim (ℕ_discrete x j) [ yes p ↦ is_j p | no s ↦ after (omega arith) ] ]

module _ (g : ℕ → ℕ → Float) (j : ℕ) (r : Float) where
  pub low_row : (x y : ℕ) → x < j → eliminated g j r x y ≡ g x y
  unfolding eliminated
  low_row x y h = rw (lt-ltb x j h)

  pub low_column : (x y : ℕ) → y < j → eliminated g j r x y ≡ g x y
  unfolding eliminated
  low_column x y h = elim (dec_lt x j) [ yes p ↦ rw (lt-ltb x j p) | no q ↦ rw (le-ltb x j (omega arith), lt-ltb y j h) ]

  pub corner : (x y : ℕ) → x ≡ j → y ≡ j → eliminated g j r x y ≡ r
  unfolding eliminated
  corner x y p q = rw (le-ltb x j (omega arith), le-ltb y j (omega arith), eq-eqb x j p, eq-eqb y j q)

  pub in_column : (x y : ℕ) → j < x → y ≡ j → eliminated g j r x y ≡ g x y ⊘ r
  unfolding eliminated
  in_column x y p q = rw (le-ltb x j (omega arith), le-ltb y j (omega arith), ne_eqb x j (λ e. omega arith), eq-eqb y j q)

  pub in_row : (x y : ℕ) → x ≡ j → j < y → eliminated g j r x y ≡ g x y ⊘ r
  unfolding eliminated
  in_row x y p q = rw (le-ltb x j (omega arith), le-ltb y j (omega arith), eq-eqb x j p, ne_eqb y j (λ e. omega arith))

  pub inside : (x y : ℕ) → j < x → j < y → eliminated g j r x y ≡ g x y ⊖ (g x j ⊘ r) ⊗ (g y j ⊘ r)
  unfolding eliminated
  inside x y p q = rw (le-ltb x j (omega arith), le-ltb y j (omega arith), ne_eqb x j (λ e. omega arith), ne_eqb y j (λ e. omega arith))

  eliminated_symmetric : (x y : ℕ) → g x y ≡ g y x → eliminated g j r x y ≡ eliminated g j r y x
  eliminated_symmetric x y s = go (side j x) (side j y)
    where
      go : Side j x → Side j y → eliminated g j r x y ≡ eliminated g j r y x
      go (before p) c = low_row x y p ∙ s ∙ sym (low_column y x p)
      go (is_j p) (before q) = low_column x y q ∙ s ∙ sym (low_row y x q)
      go (is_j p) (is_j q) = corner x y p q ∙ sym (corner y x q p)
      go (is_j p) (after q) = in_row x y p q ∙ ap (λ (v : Float). v ⊘ r) s ∙ sym (in_column y x q p)
      go (after p) (before q) = low_column x y q ∙ s ∙ sym (low_row y x q)
      go (after p) (is_j q) = in_column x y p q ∙ ap (λ (v : Float). v ⊘ r) s ∙ sym (in_row y x q p)
      go (after p) (after q) = inside x y p q ∙ ap₂ ◌⊖◌ s (mul_commutes binary64 (g x j ⊘ r) (g y j ⊘ r)) ∙ sym (inside y x q p)

-- ---- one symmetric store
module _ (n j i k : ℕ) (l : List Float) (h : Entries n l) (pi : i < n) (pk : k < n) (v : Float) (e : at n l i k ⊖ at n l i j ⊗ at n l k j ≡ v) where
  abbrev w : Float
  w = at n l i k ⊖ at n l i j ⊗ at n l k j

  entry-entries : Entries n (eliminate_entry n j i k l)
  unfolding eliminate_entry
  entry-entries = put_entries n (put n l i k w) k i (at n (put n l i k w) i k) (put_entries n l i k w h)

  entry-ki : at n (eliminate_entry n j i k l) k i ≡ v
  unfolding eliminate_entry
  entry-ki = at_put_same n (put n l i k w) k i (at n (put n l i k w) i k) (put_entries n l i k w h) pk pi ∙ at_put_same n l i k w h pi pk ∙ e

  entry-ik : at n (eliminate_entry n j i k l) i k ≡ v
  unfolding eliminate_entry
  entry-ik = elim (ℕ_discrete i k) [
    | yes p ↦ subst (λ (z : ℕ). at n (eliminate_entry n j i k l) z k ≡ v) (sym p) (subst (λ (z : ℕ). at n (eliminate_entry n j i k l) k z ≡ v) p entry-ki)
    | no q ↦ at_put_other n (put n l i k w) k i i k (at n (put n l i k w) i k) pi pk (λ a b. q a) ∙ at_put_same n l i k w h pi pk ∙ e
  ]

  entry_other : (x y : ℕ) → y < n → (x ≡ i → y ≡ k → ⊥) → (x ≡ k → y ≡ i → ⊥) → at n (eliminate_entry n j i k l) x y ≡ at n l x y
  unfolding eliminate_entry
  entry_other x y py a b = at_put_other n (put n l i k w) k i x y (at n (put n l i k w) i k) pi py b ∙ at_put_other n l i k x y w pk py a

module _ (n j i : ℕ) (l : List Float) (h : Entries n l) (pj : j < n) (pi : i < n) (ji : j < i) where
  abbrev q : Float
  q = at n l i j ⊘ at n l j j

  divide_entries_lem : Entries n (divide_entries n j i l)
  unfolding divide_entries
  divide_entries_lem = put_entries n (put n l i j q) j i (at n (put n l i j q) j i ⊘ at n (put n l i j q) j j) (put_entries n l i j q h)

  divide_ij : at n (divide_entries n j i l) i j ≡ at n l i j ⊘ at n l j j
  unfolding divide_entries
  divide_ij = at_put_other n (put n l i j q) j i i j (at n (put n l i j q) j i ⊘ at n (put n l i j q) j j) pi pj (λ a b. omega arith) ∙ at_put_same n l i j q h pi pj

  divide_ji : at n (divide_entries n j i l) j i ≡ at n l j i ⊘ at n l j j
  unfolding divide_entries
  divide_ji =
      at_put_same n (put n l i j q) j i (at n (put n l i j q) j i ⊘ at n (put n l i j q) j j) (put_entries n l i j q h) pj pi
      ∙ ap₂ ◌⊘◌ (at_put_other n l i j j i q pj pi (λ a b. omega arith)) (at_put_other n l i j j j q pj pj (λ a b. omega arith))

  divide_other : (x y : ℕ) → y < n → (x ≡ i → y ≡ j → ⊥) → (x ≡ j → y ≡ i → ⊥) → at n (divide_entries n j i l) x y ≡ at n l x y
  unfolding divide_entries
  divide_other x y py a b = at_put_other n (put n l i j q) j i x y (at n (put n l i j q) j i ⊘ at n (put n l i j q) j j) pi py b ∙ at_put_other n l i j x y q pj py a

-- ---- the invariants: outside, the leading i by i block is done; inside, also the first k places of row and column i
record Outer (n : ℕ) (g : ℕ → ℕ → Float) (j : ℕ) (r : Float) (i : ℕ) (l : List Float) : Type 0 where
  entries : Entries n l
  done : (x y : ℕ) → x < n → y < n → x < i → y < i → at n l x y ≡ eliminated g j r x y
  rest : (x y : ℕ) → x < n → y < n → i ≤ max x y → at n l x y ≡ g x y

record Inner (n : ℕ) (g : ℕ → ℕ → Float) (j : ℕ) (r : Float) (i k : ℕ) (l : List Float) : Type 0 where
  entries : Entries n l
  done : (x y : ℕ) → x < n → y < n → x < i → y < i → at n l x y ≡ eliminated g j r x y
  row : (y : ℕ) → y ≤ i → y < k → at n l i y ≡ eliminated g j r i y
  column : (x : ℕ) → x ≤ i → x < k → at n l x i ≡ eliminated g j r x i
  row_rest : (y : ℕ) → y ≤ i → k ≤ y → at n l i y ≡ g i y
  column-rest : (x : ℕ) → x ≤ i → k ≤ x → at n l x i ≡ g x i
  rest : (x y : ℕ) → x < n → y < n → i < max x y → at n l x y ≡ g x y

module _ (n : ℕ) (g : ℕ → ℕ → Float) (j : ℕ) (r : Float) (pj : j < n) (gs : (x y : ℕ) → x < n → y < n → g x y ≡ g y x) where
  divided : (i : ℕ) → j < i → i < n → (l : List Float) → Outer n g j r i l → Inner n g j r i (j + 1) (divide_entries n j i l)
  divided i ji pi l O =
      let jj : at n l j j ≡ r = O.done j j pj pj ji ji ∙ corner g j r j j refl refl in
      record {
        entries = divide_entries_lem n j i l O.entries pj pi ji;
        done = λ x y px py xi yi. divide_other n j i l O.entries pj pi ji x y py (λ a b. omega arith) (λ a b. omega arith) ∙ O.done x y px py xi yi;
        row = λ y yi yk. elim (ℕ_discrete y j) [
          | yes e ↦ rw e (divide_ij n j i l O.entries pj pi ji ∙ ap₂ ◌⊘◌ (O.rest i j pi pj (omega arith)) jj ∙ sym (in_column g j r i j ji refl))
          | no q ↦ divide_other n j i l O.entries pj pi ji i y (omega arith) (λ a b. q b) (λ a b. omega arith) ∙ O.rest i y pi (omega arith) (omega arith) ∙ sym (low_column g j r i y (omega arith))
        ];
        column = λ x xi xk. elim (ℕ_discrete x j) [
          | yes e ↦ rw e (divide_ji n j i l O.entries pj pi ji ∙ ap₂ ◌⊘◌ (O.rest j i pj pi (omega arith)) jj ∙ sym (in_row g j r j i refl ji))
          | no q ↦ divide_other n j i l O.entries pj pi ji x i pi (λ a b. omega arith) (λ a b. q a) ∙ O.rest x i (omega arith) pi (omega arith) ∙ sym (low_row g j r x i (omega arith))
        ];
        row_rest = λ y yi yk. divide_other n j i l O.entries pj pi ji i y (omega arith) (λ a b. omega arith) (λ a b. omega arith) ∙ O.rest i y pi (omega arith) (omega arith);
        column-rest = λ x xi xk. divide_other n j i l O.entries pj pi ji x i pi (λ a b. omega arith) (λ a b. omega arith) ∙ O.rest x i (omega arith) pi (omega arith);
        rest = λ x y px py m. divide_other n j i l O.entries pj pi ji x y py (λ a b. omega arith) (λ a b. omega arith) ∙ O.rest x y px py (omega arith);
      }

  entry-step : (i : ℕ) → j < i → i < n → (k : ℕ) → j + 1 ≤ k → k < i + 1 → (l : List Float) → Inner n g j r i k l → Inner n g j r i (suc k) (eliminate_entry n j i k l)
  entry-step i ji pi k jk ki l I =
      let pk : k < n = omega arith in
      let kj : at n l k j ≡ eliminated g j r k j = elim (ℕ_discrete k i) [
        | yes e ↦ rw e (I.row j (omega arith) (omega arith))
        | no q ↦ I.done k j pk pj (omega arith) ji
      ] in
      let e : at n l i k ⊖ at n l i j ⊗ at n l k j ≡ eliminated g j r i k =
      ap₂ ◌⊖◌ (I.row_rest k (omega arith) (omega arith)) (ap₂ ◌⊗◌ (I.row j (omega arith) (omega arith) ∙ in_column g j r i j ji refl) (kj ∙ in_column g j r k j (omega arith) refl))
      ∙ sym (inside g j r i k ji (omega arith)) in
      record {
        entries = entry-entries n j i k l I.entries pi pk (eliminated g j r i k) e;
        done = λ x y px py xi yi. entry_other n j i k l I.entries pi pk (eliminated g j r i k) e x y py (λ a b. omega arith) (λ a b. omega arith) ∙ I.done x y px py xi yi;
        row = λ y yi yk. elim (ℕ_discrete y k) [
          | yes d ↦ rw d (entry-ik n j i k l I.entries pi pk (eliminated g j r i k) e)
          | no q ↦ entry_other n j i k l I.entries pi pk (eliminated g j r i k) e i y (omega arith) (λ a b. q b) (λ a b. q (omega arith)) ∙ I.row y yi (omega arith)
        ];
        column = λ x xi xk. elim (ℕ_discrete x k) [
          | yes d ↦ rw d (entry-ki n j i k l I.entries pi pk (eliminated g j r i k) e ∙ eliminated_symmetric g j r i k (gs i k pi pk))
          | no q ↦ entry_other n j i k l I.entries pi pk (eliminated g j r i k) e x i pi (λ a b. q (omega arith)) (λ a b. q a) ∙ I.column x xi (omega arith)
        ];
        row_rest = λ y yi yk. entry_other n j i k l I.entries pi pk (eliminated g j r i k) e i y (omega arith) (λ a b. omega arith) (λ a b. omega arith) ∙ I.row_rest y yi (omega arith);
        column-rest = λ x xi xk. entry_other n j i k l I.entries pi pk (eliminated g j r i k) e x i pi (λ a b. omega arith) (λ a b. omega arith) ∙ I.column-rest x xi (omega arith);
        rest = λ x y px py m. entry_other n j i k l I.entries pi pk (eliminated g j r i k) e x y py (λ a b. omega arith) (λ a b. omega arith) ∙ I.rest x y px py m;
      }

  row_step : (i : ℕ) → j + 1 ≤ i → i < n → (l : List Float) → Outer n g j r i l → Outer n g j r (suc i) (eliminate_row n j i l)
  unfolding eliminate_row
  row_step i ji pi l O = close (range-ind (Inner n g j r i) (j + 1) (i + 1) (eliminate_entry n j i) (divide_entries n j i l) (omega arith) (divided i (omega arith) pi l O) (entry-step i (omega arith) pi))
    where
      close : {m : List Float} → Inner n g j r i (i + 1) m → Outer n g j r (suc i) m
      close {m} I = record {
        entries = I.entries;
        done = λ x y px py xi yi. elim (ℕ_discrete x i) [
          | yes e ↦ rw e (I.row y (omega arith) (omega arith))
          | no q ↦ elim (ℕ_discrete y i) [ yes e ↦ rw e (I.column x (omega arith) (omega arith)) | no q2 ↦ I.done x y px py (omega arith) (omega arith) ]
        ];
        rest = λ x y px py k. I.rest x y px py (omega arith);
      }

module _ (n j : ℕ) (m : List Float) (pj : j < n) (h : Entries n m) (ms : (x y : ℕ) → x < n → y < n → at n m x y ≡ at n m y x) where
  eliminate-all : Outer n (at n m) j (sqrt (at n m j j)) n (eliminate n j m)
  unfolding eliminate
  eliminate-all =
      let r = sqrt (at n m j j) in
      range-ind (Outer n (at n m) j r) (j + 1) n (eliminate_row n j) (put n m j j r) (omega arith)
      (record {
        entries = put_entries n m j j r h;
        done = λ x y px py xi yi. elim (ℕ_discrete x j) [
          | yes e ↦ elim (ℕ_discrete y j) [
            | yes d ↦ rw (e, d) (at_put_same n m j j r h pj pj ∙ sym (corner (at n m) j r j j refl refl))
            | no q ↦ at_put_other n m j j x y r pj py (λ a b. q b) ∙ sym (low_column (at n m) j r x y (omega arith))
          ]
          | no q ↦ at_put_other n m j j x y r pj py (λ a b. q a) ∙ sym (low_row (at n m) j r x y (omega arith))
        ];
        rest = λ x y px py k. at_put_other n m j j x y r pj py (λ a b. omega arith);
      })
      (row_step n (at n m) j r pj ms)

  pub eliminate-entries : Entries n (eliminate n j m)
  eliminate-entries = eliminate-all.entries

  -- what stands at (x, y) after the elimination
  pub eliminate-at : (x y : ℕ) → x < n → y < n → at n (eliminate n j m) x y ≡ eliminated (at n m) j (sqrt (at n m j j)) x y
  eliminate-at x y px py = eliminate-all.done x y px py px py

  pub eliminate-symmetric : (x y : ℕ) → x < n → y < n → at n (eliminate n j m) x y ≡ at n (eliminate n j m) y x
  eliminate-symmetric x y px py = eliminate-at x y px py ∙ eliminated_symmetric (at n m) j (sqrt (at n m j j)) x y (ms x y px py) ∙ sym (eliminate-at y x py px)

-- ---- along moved positions that leave 0 to j where they are
module _ (n j : ℕ) (σ τ : ℕ → ℕ) (A B : List Float) (pj : j < n) (P : Bijection 0 n σ τ) (f : Fixes n (j + 1) σ) (M : Moved n σ A B) (s : (x y : ℕ) → x < n → y < n → at n A x y ≡ at n A y x) where
  fixed : σ j ≡ j
  fixed = f j (omega arith) pj

  pub moved_corner : at n B j j ≡ at n A j j
  moved_corner = M.moved j j pj pj ∙ ap₂ (at n A) fixed fixed

  pub moved_column : (x : ℕ) → x < n → at n B x j ≡ at n A (σ x) j
  moved_column x px = M.moved x j px pj ∙ ap (at n A (σ x)) fixed

  pub moved_symmetric : (x y : ℕ) → x < n → y < n → at n B x y ≡ at n B y x
  moved_symmetric x y px py = M.moved x y px py ∙ s (σ x) (σ y) (P.to_high x (omega arith) px) (P.to_high y (omega arith) py) ∙ sym (M.moved y x py px)

  eliminated_along : (r : Float) (x y : ℕ) → x < n → y < n → eliminated (at n B) j r x y ≡ eliminated (at n A) j r (σ x) (σ y)
  eliminated_along r x y px py = go (side j x) (side j y)
    where
      E : at n B x y ≡ at n A (σ x) (σ y)
      E = M.moved x y px py

      low : (z : ℕ) → z < j → z < n → σ z < j
      low z h q = omega (arith, f z (omega arith) q)

      same : (z : ℕ) → z ≡ j → σ z ≡ j
      same z e = ap σ e ∙ fixed

      go : Side j x → Side j y → eliminated (at n B) j r x y ≡ eliminated (at n A) j r (σ x) (σ y)
      go (before p) c = low_row (at n B) j r x y p ∙ E ∙ sym (low_row (at n A) j r (σ x) (σ y) (low x p px))
      go (is_j p) (before q) = low_column (at n B) j r x y q ∙ E ∙ sym (low_column (at n A) j r (σ x) (σ y) (low y q py))
      go (is_j p) (is_j q) = corner (at n B) j r x y p q ∙ sym (corner (at n A) j r (σ x) (σ y) (same x p) (same y q))
      go (is_j p) (after q) = in_row (at n B) j r x y p q ∙ ap (λ (v : Float). v ⊘ r) E ∙ sym (in_row (at n A) j r (σ x) (σ y) (same x p) (stays_after n j σ τ P f y q py))
      go (after p) (before q) = low_column (at n B) j r x y q ∙ E ∙ sym (low_column (at n A) j r (σ x) (σ y) (low y q py))
      go (after p) (is_j q) = in_column (at n B) j r x y p q ∙ ap (λ (v : Float). v ⊘ r) E ∙ sym (in_column (at n A) j r (σ x) (σ y) (stays_after n j σ τ P f x p px) (same y q))
      go (after p) (after q) =
          inside (at n B) j r x y p q
          ∙ ap₂ ◌⊖◌ E (ap₂ ◌⊗◌ (ap (λ (v : Float). v ⊘ r) (moved_column x px)) (ap (λ (v : Float). v ⊘ r) (moved_column y py)))
          ∙ sym (inside (at n A) j r (σ x) (σ y) (stays_after n j σ τ P f x p px) (stays_after n j σ τ P f y q py))

  pub eliminate-moved : Moved n σ (eliminate n j A) (eliminate n j B)
  eliminate-moved = record {
    entries_a = eliminate-entries n j A pj M.entries_a s;
    entries_b = eliminate-entries n j B pj M.entries_b moved_symmetric;
    moved = λ x y px py.
        eliminate-at n j B pj M.entries_b moved_symmetric x y px py
        ∙ ap (λ (r : Float). eliminated (at n B) j r x y) (ap sqrt moved_corner)
        ∙ eliminated_along (sqrt (at n A j j)) x y px py
        ∙ sym (eliminate-at n j A pj M.entries_a s (σ x) (σ y) (P.to_high x (omega arith) px) (P.to_high y (omega arith) py));
  }
