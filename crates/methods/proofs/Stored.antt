-- A loop that stores one value in each of distinct cells: what stands where afterwards.
use mathlib.Core.Path.{◌≡◌, refl, ◌∙◌}
use mathlib.Core.List.{List}
use Prim.Native.Nat.{ℕ, suc, ◌≤◌, ◌<◌}
use native.Mathlib.Decide.{ℕ_discrete}
use native.Mathlib.Omega.{arith}
use lib.Ieee.{Float}
use Rattle.arithmetic.specs.Loop.{range}
use Rattle.arithmetic.proofs.LoopLaws.{range-ind}
use Rattle.matrix.specs.Matrix.{put}
use Rattle.matrix.proofs.EntryLaws.{Entries, put_entries, at_put_same, at_put_other}
use Rattle.methods.specs.Elimination.{Rest, Stored}

module _ (n a : ℕ) (row column : ℕ → ℕ) (f : ℕ → Float) (m₀ : List Float) where
  pub stored-none : Entries n m₀ → Stored n a row column f m₀ a m₀
  stored-none h = record { entries = h; done = λ i p q. absurd (omega arith); rest = λ x y px py k. refl }

  -- one store more, in a cell of its own
  pub stored_more : (k : ℕ) (m : List Float) (v : Float) → a ≤ k → row k < n → column k < n → ((i : ℕ) → a ≤ i → i < k → column i < n)
      → ((i : ℕ) → a ≤ i → i < k → row i ≡ row k → column i ≡ column k → ⊥)
      → Stored n a row column f m₀ k m → v ≡ f k → Stored n a row column f m₀ (suc k) (put n m (row k) (column k) v)
  stored_more k m v ak pr pc pcs apart F e = record {
    entries = put_entries n m (row k) (column k) v F.entries;
    done = λ i u w. elim (ℕ_discrete i k) [
      | yes d ↦ rw d (at_put_same n m (row k) (column k) v F.entries pr pc ∙ e)
      | no d ↦ at_put_other n m (row k) (column k) (row i) (column i) v pc (pcs i u (omega arith)) (λ g h. apart i u (omega arith) g h) ∙ F.done i u (omega arith)
    ];
    rest = λ x y px py h. at_put_other n m (row k) (column k) x y v pc py (λ g d. h k ak (omega arith) g d) ∙ F.rest x y px py (λ i u w. h i u (omega arith));
  }

pub stored : (n a b : ℕ) (row column : ℕ → ℕ) (v : ℕ → List Float → Float) (value : ℕ → Float) (m₀ : List Float) → a ≤ b → Entries n m₀
    → ((i : ℕ) → a ≤ i → i < b → row i < n) → ((i : ℕ) → a ≤ i → i < b → column i < n)
    → ((i k : ℕ) → a ≤ i → i < b → a ≤ k → k < b → row i ≡ row k → column i ≡ column k → i ≡ k)
    → ((i : ℕ) → a ≤ i → i < b → (m : List Float) → Rest n a row column m₀ i m → v i m ≡ value i)
    → Stored n a row column value m₀ b (range a b (λ i m. put n m (row i) (column i) (v i m)) m₀)
stored n a b row column v value m₀ ab h rb cb apart is =
    range-ind (Stored n a row column value m₀) a b (λ i m. put n m (row i) (column i) (v i m)) m₀ ab (stored-none n a row column value m₀ h)
    (λ k p q m F. stored_more n a row column value m₀ k m (v k m) p (rb k p q) (cb k p q) (λ i u w. cb i u (omega arith)) (λ i u w g d. before i k w (apart i k u (omega arith) p q g d)) F (is k p q m F.rest))
  where
    before : (i k : ℕ) → i < k → i ≡ k → ⊥
    before i k w e = omega arith
