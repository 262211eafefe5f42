-- Loops in code that write a list place by place: what holds at i, that it holds before the first turn and over a turn, and what follows after the last.
use mathlib.Core.Path.{◌≡◌, refl, sym, ◌∙◌}
use mathlib.Core.List.{List}
use Prim.Native.Nat.{ℕ, ◌+◌, ◌≤◌, ◌<◌}
use native.Mathlib.Decide.{ℕ_discrete}
use native.Mathlib.Omega.{arith}
use borrow.Author.Rules.{rules}
use lib.ListN.{length, get_or, set, length-set, replicate, length-replicate, get_or-replicate}
use lib.Seq.{get_or-set_same, get_or-set_other, ext_get_or}
use Rattle.matrix.specs.Table.{table}
use Rattle.matrix.proofs.TableLaws.{length-table, get_or-table}

-- the places a to i - 1 have f
module _ {A : Type 0} (d : A) (f : ℕ → A) where
  abbrev pub Written : ℕ → ℕ → List A → Type 0
  Written a i l = (k : ℕ) → a ≤ k → k < i → get_or l k d ≡ f k

  pub written-more : (a i : ℕ) (l : List A) (v : A) → i < length l → v ≡ f i → Written a i l → Written a (i + 1) (set l i v)
  written-more a i l v h e w k p q = elim (ℕ_discrete k i) [ yes s ↦ rw s (get_or-set_same l i v d h ∙ e) | no s ↦ get_or-set_other l i k v d s ∙ w k p (omega arith) ]

-- .. and the rest of l is as in l₀
pub record Filling {A : Type 0} (d : A) (f : ℕ → A) (a n i : ℕ) (l₀ l : List A) : Type 0 where
  pub low : a ≤ i
  pub high : i ≤ n
  pub len : length l ≡ length l₀
  pub done : Written d f a i l
  pub rest : (k : ℕ) → i ≤ k → get_or l k d ≡ get_or l₀ k d

pub filling_start : {A : Type 0} {d : A} {f : ℕ → A} {a n : ℕ} {l : List A} → a ≤ n → Filling d f a n a l l
filling_start h = record { low = omega arith; high = h; len = refl; done = λ k p q. absurd (omega arith); rest = λ k p. refl }

module _ {A : Type 0} {d : A} {f : ℕ → A} {a n i : ℕ} {l₀ l : List A} (s : Filling d f a n i l₀ l) where
  pub filling_turn : {v : A} → i < n → i < length l → v ≡ f i → Filling d f a n (i + 1) l₀ (set l i v)
  filling_turn {v} h q e = record {
    low = omega arith;
    high = omega arith;
    len = length-set l i v ∙ s.len;
    done = written-more d f a i l v q e s.done;
    rest = λ k p. get_or-set_other l i k v d (λ g. omega arith) ∙ s.rest k (omega arith);
  }

-- ---- all of it is written
module _ {A : Type 0} (d : A) (n i : ℕ) (l₀ l : List A) (h : n ≤ i) (e : length l₀ ≡ n) where
  pub filling_list : (m : List A) → Filling d (λ k. get_or m k d) 0 n i l₀ l → length m ≡ n → l ≡ m
  filling_list m s g = ext_get_or d l m (s.len ∙ e ∙ sym g) (λ k p. s.done k (omega arith) (omega arith))

  pub filling_table : (f : ℕ → A) → Filling d f 0 n i l₀ l → l ≡ table n f
  filling_table f s = ext_get_or d l (table n f) (s.len ∙ e ∙ sym (length-table n f)) (λ k p. s.done k (omega arith) (omega arith) ∙ sym (get_or-table n f k d (omega arith)))

  pub filling_replicate : (v : A) → Filling d (λ k. v) 0 n i l₀ l → l ≡ replicate n v
  filling_replicate v s = ext_get_or d l (replicate n v) (s.len ∙ e ∙ sym (length-replicate n v)) (λ k p. s.done k (omega arith) (omega arith) ∙ sym (get_or-replicate n k v d (omega arith)))

-- for `search`, at what such a loop holds when it begins and when it has ended
pub ruleset fillings = (rules, filling_start, filling_list, filling_table, filling_replicate)
