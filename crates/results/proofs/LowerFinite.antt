-- Matrices whose entries are all finite: kept by stores of finite values, and by the stores of a step where it is tested.
use mathlib.Core.Path.{◌≡◌, refl, ◌∙◌}
use mathlib.Core.List.{List}
use mathlib.Core.Bool.{true}
use Prim.Native.Nat.{ℕ, ◌+◌, ◌≤◌, ◌<◌}
use native.Mathlib.Decide.{ℕ_discrete, dec_lt}
use native.Mathlib.Omega.{arith}
use lib.Ieee.{Float}
use lib.Ieee.Scale.{finite}
use Rattle.arithmetic.specs.Double.{◌⊖◌, ◌⊗◌, ◌⊘◌}
use Rattle.arithmetic.proofs.LoopLaws.{range-ind}
use Rattle.arithmetic.specs.Sqrt.{sqrt}
use Rattle.matrix.specs.Matrix.{at, put}
use Rattle.matrix.proofs.EntryLaws.{Entries, put_entries, at_put_other}
use Rattle.methods.specs.Statements.{eliminate_entry, divide_entries, eliminate_row, eliminate, block_finite}
use Rattle.methods.proofs.FiniteEntries.{FiniteEntries}
use Rattle.methods.proofs.Moved.{block_each}

-- a store that is tested by a read of its place
pub put-finite : (n : ℕ) (m : List Float) (i k : ℕ) (v : Float) → k < n → finite (at n (put n m i k v) i k) ≡ true → FiniteEntries n m → FiniteEntries n (put n m i k v)
put-finite n m i k v pk f F = record {
  entries = put_entries n m i k v F.entries;
  each = λ x y px py. elim (ℕ_discrete x i) [
    | yes p ↦ elim (ℕ_discrete y k) [
      | yes q ↦ rw (p, q) f
      | no q ↦ rw (at_put_other n m i k x y v pk py (λ a b. q b)) (F.each x y px py)
    ]
    | no p ↦ rw (at_put_other n m i k x y v pk py (λ a b. p a)) (F.each x y px py)
  ];
}

-- ---- m agrees with m₀ outside rows and columns j to n - 1
pub record Outside (n j : ℕ) (m₀ m : List Float) : Type 0 where
  pub entries : Entries n m
  pub same : (x y : ℕ) → x < n → y < n → (j ≤ x → j ≤ y → ⊥) → at n m x y ≡ at n m₀ x y

pub outside_put : (n j i k : ℕ) (m₀ m : List Float) (v : Float) → j ≤ i → j ≤ k → k < n → Outside n j m₀ m → Outside n j m₀ (put n m i k v)
outside_put n j i k m₀ m v ji jk pk O = record {
  entries = put_entries n m i k v O.entries;
  same = λ x y px py h. at_put_other n m i k x y v pk py (λ a b. h (omega arith) (omega arith)) ∙ O.same x y px py h;
}

pub outside_self : (n j : ℕ) (m : List Float) → Entries n m → Outside n j m m
outside_self n j m h = record { entries = h; same = λ x y px py k. refl }

module _ (n j : ℕ) (m₀ : List Float) (pj : j < n) where
  outside_entry : (i k : ℕ) (m : List Float) → j ≤ i → i < n → j ≤ k → k < n → Outside n j m₀ m → Outside n j m₀ (eliminate_entry n j i k m)
  unfolding eliminate_entry
  outside_entry i k m ji pi jk pk O =
      let m' = put n m i k (at n m i k ⊖ at n m i j ⊗ at n m k j) in
      outside_put n j k i m₀ m' (at n m' i k) jk ji pi (outside_put n j i k m₀ m (at n m i k ⊖ at n m i j ⊗ at n m k j) ji jk pk O)

  outside_divide : (i : ℕ) (m : List Float) → j ≤ i → i < n → Outside n j m₀ m → Outside n j m₀ (divide_entries n j i m)
  unfolding divide_entries
  outside_divide i m ji pi O =
      let m' = put n m i j (at n m i j ⊘ at n m j j) in
      outside_put n j j i m₀ m' (at n m' j i ⊘ at n m' j j) (omega arith) ji pi (outside_put n j i j m₀ m (at n m i j ⊘ at n m j j) ji (omega arith) pj O)

  outside_row : (i : ℕ) (m : List Float) → j < i → i < n → Outside n j m₀ m → Outside n j m₀ (eliminate_row n j i m)
  unfolding eliminate_row
  outside_row i m ji pi O = range-ind (λ k x. Outside n j m₀ x) (j + 1) (i + 1) (eliminate_entry n j i) (divide_entries n j i m) (omega arith)
      (outside_divide i m (omega arith) pi O) (λ k p q x I. outside_entry i k x (omega arith) pi (omega arith) (omega arith) I)

  pub outside_eliminate : (m : List Float) → Outside n j m₀ m → Outside n j m₀ (eliminate n j m)
  unfolding eliminate
  outside_eliminate m O = range-ind (λ i x. Outside n j m₀ x) (j + 1) n (eliminate_row n j) (put n m j j (sqrt (at n m j j))) (omega arith)
      (outside_put n j j j m₀ m (sqrt (at n m j j)) (omega arith) (omega arith) pj O) (λ i p q x I. outside_row i x (omega arith) q I)

pub block_finite_lem : (n j : ℕ) (m₀ m : List Float) → j < n → FiniteEntries n m₀ → Outside n j m₀ m → block_finite n j m ≡ true → FiniteEntries n m
block_finite_lem n j m₀ m pj F O e = record {
  entries = O.entries;
  each = λ x y px py. elim (dec_lt x j) [
    | yes p ↦ rw (O.same x y px py (λ a b. omega arith)) (F.each x y px py)
    | no p ↦ elim (dec_lt y j) [
      | yes q ↦ rw (O.same x y px py (λ a b. omega arith)) (F.each x y px py)
      | no q ↦ block_each n j m (omega arith) e x y (omega arith) px (omega arith) py
    ]
  ];
}
