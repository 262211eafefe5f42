-- Where the contracts of two runs stand before step j: kept by pivots that correspond. Where all are fixed, amounts and pivots are alike.
use mathlib.Core.Path.{◌≡◌, sym, ap, ap₂, ◌∙◌}
use mathlib.Core.List.{List}
use Prim.Native.Nat.{ℕ, suc, ◌+◌, ◌<◌}
use native.Mathlib.Omega.{arith}
use lib.ListN.{length, get_or}
use lib.Ieee.{Float, nan}
use Rattle.matrix.specs.Matrix.{at}
use Rattle.matrix.proofs.TableLaws.{get_or-table}
use Rattle.matrix.proofs.Bijection.{Bijection, Fixes, bijection_turned, turned, turned_fixes}
use Rattle.methods.specs.Result.{identity}
use Rattle.methods.specs.Statements.{pivot_matrix, pivot_list, reorder}
use Rattle.methods.proofs.Moved.{Moved, pivot_moved, pivot-order}
use Rattle.methods.proofs.Pivots.{Permuted, identity-permuted, pivot-permuted}
use Rattle.methods.proofs.Reordered.{reorder-along}

-- position x of the second run, whose order is q, holds the contract of position σ x of the first, whose order is p; s is the load order
pub record Positions (n : ℕ) (s : ℕ → ℕ) (j : ℕ) (p q : List ℕ) : Type 0 where
  pub σ : ℕ → ℕ
  pub τ : ℕ → ℕ
  pub bijection : Bijection 0 n σ τ
  pub fixes : Fixes n j σ
  pub own : (x : ℕ) → x < n → s (get_or q x 0) ≡ get_or p (σ x) 0
  pub permuted_a : Permuted n p
  pub permuted_b : Permuted n q

-- ---- at the start
pub identity-own : (n : ℕ) (s s' : ℕ → ℕ) → Bijection 0 n s s' → (x : ℕ) → x < n → s (get_or (identity n) x 0) ≡ get_or (identity n) (s x) 0
identity-own n s s' P x px = ap s (get_or-table n (λ i. i) x 0 px) ∙ sym (get_or-table n (λ i. i) (s x) 0 (P.to_high x (omega arith) px))

abbrev pub loaded_positions : (n : ℕ) (s s' : ℕ → ℕ) → Bijection 0 n s s' → Positions n s 0 (identity n) (identity n)
loaded_positions n s s' P = record {
  σ = s;
  τ = s';
  bijection = P;
  fixes = λ x h q. absurd (omega arith);
  own = identity-own n s s' P;
  permuted_a = identity-permuted n;
  permuted_b = identity-permuted n;
}

-- ---- after a step

-- the pivots, a and b after j, hold the same contract
pub record Corresponding (n : ℕ) (σ : ℕ → ℕ) (j a b : ℕ) : Type 0 where
  pub here : j < n
  pub first : j + a < n
  pub second : j + b < n
  pub corresponds : σ (j + b) ≡ j + a

-- .. so that after their swaps the two orders, and every two matrices that were alike, are alike before the next step
pub record Pivoted (n : ℕ) (s : ℕ → ℕ) (j : ℕ) (p q : List ℕ) (L : Positions n s j p q) (a b : ℕ) : Type 0 where
  pub here : j < n
  pub first : j + a < n
  pub next : Positions n s (suc j) (pivot_list 0 j a p) (pivot_list 0 j b q)
  pub fixes : Fixes n (j + 1) next.σ
  pub moved : (X Y : List Float) → Moved n L.σ X Y → Moved n next.σ (pivot_matrix n j a X) (pivot_matrix n j b Y)

pub pivoted : (n : ℕ) (s : ℕ → ℕ) (j : ℕ) (p q : List ℕ) (L : Positions n s j p q) (a b : ℕ) → Corresponding n L.σ j a b → Pivoted n s j p q L a b
pivoted n s j p q L a b W = record {
  here = W.here;
  first = W.first;
  next = record {
    σ = turned j (j + a) (j + b) L.σ;
    τ = turned j (j + b) (j + a) L.τ;
    bijection = bijection_turned n j (j + a) (j + b) L.σ L.τ L.bijection W.here W.first W.second;
    fixes = λ x h w. fixes x (omega arith) w;
    own = pivot-order n j a b s L.σ p q W.first W.second L.permuted_a.len L.permuted_b.len L.own;
    permuted_a = pivot-permuted n j a p W.first L.permuted_a;
    permuted_b = pivot-permuted n j b q W.second L.permuted_b;
  };
  fixes = fixes;
  moved = λ X Y M. pivot_moved n j a b L.σ L.τ X Y W.here W.first W.second L.bijection M;
}
  where
    fixes : Fixes n (j + 1) (turned j (j + a) (j + b) L.σ)
    fixes = turned_fixes n j (j + a) (j + b) L.σ L.fixes (omega arith) (omega arith) W.corresponds

-- entry (j, j) of such matrices is the same
pub corner : {n : ℕ} {s : ℕ → ℕ} {j : ℕ} {p q : List ℕ} {L : Positions n s j p q} {a b : ℕ} (W : Pivoted n s j p q L a b) {X Y : List Float} → Moved n W.next.σ X Y → at n X j j ≡ at n Y j j
corner {n} {j = j} W {X} M = sym (M.moved j j W.here W.here ∙ ap₂ (at n X) (W.fixes j (omega arith) W.here) (W.fixes j (omega arith) W.here))

-- what holds before a step holds before the one before it
abbrev pub earlier : {n : ℕ} {s : ℕ → ℕ} {j : ℕ} {p q : List ℕ} → Positions n s (suc j) p q → Positions n s j p q
earlier L = record {
  σ = L.σ;
  τ = L.τ;
  bijection = L.bijection;
  fixes = λ x h q. L.fixes x (omega arith) q;
  own = L.own;
  permuted_a = L.permuted_a;
  permuted_b = L.permuted_b;
}

-- ---- at the end
module _ {n : ℕ} {s : ℕ → ℕ} {p q : List ℕ} (L : Positions n s n p q) where
  pub same-pivots : (x : ℕ) → x < n → get_or p x 0 ≡ s (get_or q x 0)
  same-pivots x h = sym (L.own x h ∙ ap (λ (z : ℕ). get_or p z 0) (L.fixes x h h))

  pub same-amounts : {e e' : List Float} → e ≡ e' → length e ≡ n → (i : ℕ) → i < n → get_or (reorder n q e') i nan ≡ get_or (reorder n p e) (s i) nan
  same-amounts {e} {e'} h k i w =
      ap (λ (x : List Float). get_or (reorder n q x) i nan) (sym h)
      ∙ reorder-along n s p q L.permuted_a.inverse L.permuted_b.inverse e L.permuted_a.order L.permuted_b.order k same-pivots i w
