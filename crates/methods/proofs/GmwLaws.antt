-- The definitions of GMW81 by the loops and the branches that the code has.
use mathlib.Core.Path.{◌≡◌, refl, sym, ap}
use mathlib.Core.Bool.{Bool, true, false}
use mathlib.Core.List.{List}
use Prim.Native.Nat.{ℕ, ◌+◌, ◌-◌, ◌*◌, ◌<◌}
use native.Mathlib.Decide.{dec_lt}
use native.Mathlib.Omega.{arith}
use borrow.Author.Tests.{lt-ltb, le-ltb}
use lib.ListN.{get_or, set}
use lib.Ieee.{Float, nan}
use Rattle.arithmetic.specs.Double.{plus_zero, ◌⊕◌, ◌⊖◌, ◌⊗◌, ◌⊘◌, square}
use Rattle.arithmetic.specs.Loop.{range}
use Rattle.arithmetic.proofs.LoopLaws.{range_none}
use Rattle.matrix.specs.Matrix.{at, put, zeros}
use Rattle.arithmetic.proofs.Cases.{Is, is, holds, fails}
use Rattle.methods.specs.Gmw81.{fold_off_diagonal, fold_row, off_diagonal_max, Run, start, divide_row, dot, column, theta_of, update_diagonal, stored_finite, step_at, c₂Of, dj_of, step, dout_of, inexact_roots, unit_lower, product, scaled_finite, finish}
use Rattle.methods.specs.Marks.{marked}
use Rattle.methods.specs.Progress.{begun, searched, stored, counted, stopped}
use Rattle.methods.specs.Result.{identity}
use Rattle.methods.specs.Statements.{larger_magnitude, diagonal, pick, pivot_matrix, pivot_list, reorder}

pub row_is : (n : ℕ) (l : List Float) (i : ℕ) (acc : Float) → fold_row n l i acc ≡ range 0 n (fold_off_diagonal n l i) acc
unfolding fold_row
row_is n l i acc = refl

pub off_diagonal_is : (n : ℕ) (l : List Float) → off_diagonal_max n l ≡ range 0 n (fold_row n l) plus_zero
unfolding off_diagonal_max
off_diagonal_is n l = refl

pub start_is : (n : ℕ) (a : List Float) → (start n a).c ≡ range 0 n (λ i c. put n c i i (at n a i i)) (zeros (n * n))
unfolding start
start_is n a = refl

pub divided_is : (n j : ℕ) (c d l : List Float) → divide_row n j c d l ≡ range 0 j (λ s m. put n m j s (at n c j s ⊘ get_or d s nan)) l
unfolding divide_row
divided_is n j c d l = refl

pub dot-is : (n j : ℕ) (l c : List Float) (i : ℕ) → dot n j l c i ≡ range 0 j (λ s sum. sum ⊕ at n l j s ⊗ at n c i s) plus_zero
unfolding dot
dot-is n j l c i = refl

pub column-is : (n j : ℕ) (l c : List Float) → column n j l c ≡ range j n (λ i m. put n m i j (at n l i j ⊖ dot n j l m i)) c
unfolding column
column-is n j l c = refl

-- at j = n - 1 the loop does nothing
pub theta_is : (n j : ℕ) (c : List Float) → j < n → theta_of n j c ≡ range (j + 1) n (λ i acc. larger_magnitude acc (at n c i j)) plus_zero
unfolding theta_of
theta_is n j c pj = elim (dec_lt j (n - 1)) [
  | yes p ↦ rw (lt-ltb j (n - 1) p)
  | no p ↦ rw (le-ltb j (n - 1) (omega arith)) (sym (range_none (j + 1) n (λ i acc. larger_magnitude acc (at n c i j)) plus_zero (omega arith)))
]

pub diagonal-is : (n j : ℕ) (dj : Float) (c : List Float) → j < n
    → update_diagonal n j dj c ≡ range (j + 1) n (λ i m. put n m i i (at n m i i ⊖ square (at n m i j) ⊘ dj)) c
unfolding update_diagonal
diagonal-is n j dj c pj = elim (dec_lt j (n - 1)) [
  | yes p ↦ rw (lt-ltb j (n - 1) p)
  | no p ↦ rw (le-ltb j (n - 1) (omega arith)) (sym (range_none (j + 1) n (λ i m. put n m i i (at n m i i ⊖ square (at n m i j) ⊘ dj)) c (omega arith)))
]

-- ---- a step, and the end
pub started_is : (n : ℕ) (a : List Float) → start n a ≡ record { l = a; c = (start n a).c; d = zeros n; e = zeros n; p = identity n; progress = begun }
unfolding start
started_is n a = refl

pub step-at_is : (n : ℕ) (delta beta : Float) (j m : ℕ) (tie : Bool) (s : Run) → step_at n delta beta j m tie s ≡ (
    let l₂ = divide_row n j (pivot_matrix n j m s.c) s.d (pivot_matrix n j m s.l) in
    let c₂ = c₂Of n j m s.l s.c s.d in
    let dj = dj_of n delta beta j c₂ in
    let c₃ = update_diagonal n j dj c₂ in
    let ej = dj ⊖ at n c₃ j j in
    record {
      l = l₂;
      c = c₃;
      d = set s.d j dj;
      e = set s.e j ej;
      p = pivot_list 0 j m s.p;
      progress = stored (stored_finite n j l₂ c₃ dj ej) j (searched tie j s.progress);
    })
unfolding step_at
step-at_is n delta beta j m tie s = refl

module _ (numbers : List ℕ) (n : ℕ) (delta beta : Float) (j : ℕ) (s : Run) where
  pub step_stays : stopped s.progress ≡ true → step numbers n delta beta j s ≡ s
  unfolding step
  step_stays h = rw h

  pub step-goes : stopped s.progress ≡ false → step numbers n delta beta j s ≡ step_at n delta beta j (pick numbers s.p true (diagonal n s.c) j).index (pick numbers s.p true (diagonal n s.c) j).tied s
  unfolding step
  step-goes h = rw h

module _ (n : ℕ) (s : Run) where
  pub finish-stays : marked s.progress.refused ≡ true → finish n s ≡ s
  unfolding finish
  finish-stays h = rw h

  pub finish-goes : marked s.progress.refused ≡ false → finish n s ≡ record {
    l = product n (unit_lower n s.l) (dout_of n s.d);
    c = s.c;
    d = s.d;
    e = reorder n s.p s.e;
    p = s.p;
    progress = stored (scaled_finite n (dout_of n s.d) (product n (unit_lower n s.l) (dout_of n s.d))) n (counted (inexact_roots n s.d) s.progress);
  }
  unfolding finish
  finish-goes h = rw h

  pub finish-order : (finish n s).p ≡ s.p
  finish-order = go (is (marked s.progress.refused))
    where
      go : Is (marked s.progress.refused) → (finish n s).p ≡ s.p
      go (holds h) = ap (λ (t : Run). t.p) (finish-stays h)
      go (fails h) = ap (λ (t : Run). t.p) (finish-goes h)
