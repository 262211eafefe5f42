-- Two matrices of which the second is the first with its positions moved by σ; kept by pivots. And which of their entries are finite.
use mathlib.Core.Path.{◌≡◌, sym, ap, ap₂, ◌∙◌, subst}
use mathlib.Core.List.{List}
use mathlib.Core.Bool.{true}
use Prim.Native.Nat.{ℕ, ◌+◌, ◌≤◌, ◌<◌}
use native.Mathlib.Decide.{ℕ_discrete}
use native.Mathlib.Omega.{arith}
use lib.ListN.{length, get_or}
use borrow.Author.Tests.{eq-eqb, ne_eqb}
use lib.Ieee.{Float, nan}
use lib.Ieee.Scale.{finite}
use Rattle.arithmetic.specs.All.{all}
use Rattle.arithmetic.proofs.AllLaws.{all-each, all_true}
use Rattle.matrix.specs.Matrix.{at}
use Rattle.matrix.proofs.EntryLaws.{Entries, same_entries}
use Rattle.matrix.proofs.SwapLaws.{transpose, transpose_self, transpose_lt, transpose_twice, length-swap, get_or-swap, swap-both_entries, swap-both_at}
use Rattle.arithmetic.proofs.Cases.{same_tests}
use Rattle.matrix.proofs.Bijection.{Bijection, Fixes, turned, turned_lt}
use Rattle.methods.specs.Statements.{pivot_matrix, pivot_list, block_finite}

-- B's entry (x, y) is A's entry (σ x, σ y)
pub record Moved (n : ℕ) (σ : ℕ → ℕ) (A B : List Float) : Type 0 where
  pub entries_a : Entries n A
  pub entries_b : Entries n B
  pub moved : (x y : ℕ) → x < n → y < n → at n B x y ≡ at n A (σ x) (σ y)

-- where every position is fixed the two are one
pub moved_same : (n : ℕ) (σ : ℕ → ℕ) (A B : List Float) → Fixes n n σ → Moved n σ A B → B ≡ A
moved_same n σ A B f M = same_entries n B A M.entries_b M.entries_a (λ x y px py. M.moved x y px py ∙ ap₂ (at n A) (f x px px) (f y py py))

-- ---- pivots
pub pivot-entries : (n j k : ℕ) (m : List Float) → Entries n m → j < n → j + k < n → Entries n (pivot_matrix n j k m)
unfolding pivot_matrix
pivot-entries n j k m h pj pk = elim (ℕ_discrete k 0) [
  | yes e ↦ rw (eq-eqb k 0 e) h
  | no e ↦ rw (ne_eqb k 0 e) (swap-both_entries nan n m j (j + k) h pj pk)
]

pub pivot-at : (n j k : ℕ) (m : List Float) → Entries n m → j < n → j + k < n → (r c : ℕ) → r < n → c < n
    → at n (pivot_matrix n j k m) r c ≡ at n m (transpose j (j + k) r) (transpose j (j + k) c)
unfolding pivot_matrix
pivot-at n j k m h pj pk r c pr pc = elim (ℕ_discrete k 0) [
  | yes e ↦
      let z : j + k ≡ j = omega arith in
      rw (eq-eqb k 0 e) (sym (rw (z, transpose_self j r, transpose_self j c)))
  | no e ↦ rw (ne_eqb k 0 e) (swap-both_at nan n m j (j + k) h pj pk r c pr pc)
]

pub pivot-symmetric : (n j k : ℕ) (m : List Float) → Entries n m → j < n → j + k < n → ((x y : ℕ) → x < n → y < n → at n m x y ≡ at n m y x)
    → (x y : ℕ) → x < n → y < n → at n (pivot_matrix n j k m) x y ≡ at n (pivot_matrix n j k m) y x
pivot-symmetric n j k m h pj pk s x y px py =
    pivot-at n j k m h pj pk x y px py
    ∙ s (transpose j (j + k) x) (transpose j (j + k) y) (transpose_lt n j (j + k) x pj pk px) (transpose_lt n j (j + k) y pj pk py)
    ∙ sym (pivot-at n j k m h pj pk y x py px)

pub pivot_moved : (n j a b : ℕ) (σ τ : ℕ → ℕ) (A B : List Float) → j < n → j + a < n → j + b < n → Bijection 0 n σ τ → Moved n σ A B
    → Moved n (turned j (j + a) (j + b) σ) (pivot_matrix n j a A) (pivot_matrix n j b B)
pivot_moved n j a b σ τ A B pj pa pb P M = record {
  entries_a = pivot-entries n j a A M.entries_a pj pa;
  entries_b = pivot-entries n j b B M.entries_b pj pb;
  moved = λ x y px py.
      pivot-at n j b B M.entries_b pj pb x y px py
      ∙ M.moved (transpose j (j + b) x) (transpose j (j + b) y) (transpose_lt n j (j + b) x pj pb px) (transpose_lt n j (j + b) y pj pb py)
      ∙ sym (pivot-at n j a A M.entries_a pj pa (turned j (j + a) (j + b) σ x) (turned j (j + a) (j + b) σ y)
      (turned_lt n j (j + a) (j + b) σ τ P pj pa pb x px) (turned_lt n j (j + a) (j + b) σ τ P pj pa pb y py)
      ∙ ap₂ (at n A) (transpose_twice j (j + a) (σ (transpose j (j + b) x))) (transpose_twice j (j + a) (σ (transpose j (j + b) y))));
}

pub length-pivot : {A : Type 0} (d : A) (j k : ℕ) (l : List A) → length (pivot_list d j k l) ≡ length l
unfolding pivot_list
length-pivot d j k l = elim (ℕ_discrete k 0) [ yes e ↦ rw (eq-eqb k 0 e) | no e ↦ rw (ne_eqb k 0 e) (length-swap d l j (j + k)) ]

pub get_or-pivot : {A : Type 0} (d : A) (j k : ℕ) (l : List A) (x : ℕ) → j + k < length l → get_or (pivot_list d j k l) x d ≡ get_or l (transpose j (j + k) x) d
unfolding pivot_list
get_or-pivot d j k l x h = elim (ℕ_discrete k 0) [
  | yes e ↦
      let z : j + k ≡ j = omega arith in
      rw (eq-eqb k 0 e) (sym (rw (z, transpose_self j x)))
  | no e ↦ rw (ne_eqb k 0 e) (get_or-swap d l j (j + k) x (omega arith) h)
]

-- p of the two runs: s is the load order
pub pivot-order : (n j a b : ℕ) (s : ℕ → ℕ) (σ : ℕ → ℕ) (p q : List ℕ) → j + a < n → j + b < n → length p ≡ n → length q ≡ n
    → ((x : ℕ) → x < n → s (get_or q x 0) ≡ get_or p (σ x) 0)
    → (x : ℕ) → x < n → s (get_or (pivot_list 0 j b q) x 0) ≡ get_or (pivot_list 0 j a p) (turned j (j + a) (j + b) σ x) 0
pivot-order n j a b s σ p q pa pb lp lq h x px =
    ap s (get_or-pivot 0 j b q x (omega arith))
    ∙ h (transpose j (j + b) x) (transpose_lt n j (j + b) x (omega arith) pb px)
    ∙ ap (λ (k : ℕ). get_or p k 0) (sym (transpose_twice j (j + a) (σ (transpose j (j + b) x))))
    ∙ sym (get_or-pivot 0 j a p (turned j (j + a) (j + b) σ x) (omega arith))

-- ---- finite entries
pub block_each : (n j : ℕ) (m : List Float) → j ≤ n → block_finite n j m ≡ true → (x y : ℕ) → j ≤ x → x < n → j ≤ y → y < n → finite (at n m x y) ≡ true
unfolding block_finite
block_each n j m h e x y jx px jy py =
    all-each j n (λ k. finite (at n m x k)) h (all-each j n (λ i. all j n (λ k. finite (at n m i k))) h e x jx px) y jy py

pub block_true : (n j : ℕ) (m : List Float) → j ≤ n → ((x y : ℕ) → j ≤ x → x < n → j ≤ y → y < n → finite (at n m x y) ≡ true) → block_finite n j m ≡ true
unfolding block_finite
block_true n j m h f = all_true j n (λ i. all j n (λ k. finite (at n m i k))) h (λ i p q. all_true j n (λ k. finite (at n m i k)) h (λ k u v. f i k p q u v))

pub block_moved : (n j : ℕ) (σ τ : ℕ → ℕ) (A B : List Float) → j ≤ n → Bijection j n σ τ → Moved n σ A B → block_finite n j A ≡ block_finite n j B
block_moved n j σ τ A B h P M = same_tests (block_finite n j A) (block_finite n j B)
    (λ e. block_true n j B h (λ x y jx px jy py. subst (λ (v : Float). finite v ≡ true) (sym (M.moved x y px py))
    (block_each n j A h e (σ x) (σ y) (P.to_low x jx px) (P.to_high x jx px) (P.to_low y jy py) (P.to_high y jy py))))
    (λ e. block_true n j A h (λ x y jx px jy py. subst (λ (v : Float). finite v ≡ true)
    (M.moved (τ x) (τ y) (P.from-high x jx px) (P.from-high y jy py) ∙ ap₂ (at n A) (P.to_from x jx px) (P.to_from y jy py))
    (block_each n j B h e (τ x) (τ y) (P.from_low x jx px) (P.from-high x jx px) (P.from_low y jy py) (P.from-high y jy py))))
