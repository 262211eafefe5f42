-- Until a run of GMW81 is refused, the entries of its l are finite.
use mathlib.Core.Path.{◌≡◌}
use mathlib.Core.List.{List}
use mathlib.Core.Bool.{Bool, true}
use Prim.Native.Nat.{ℕ, ◌+◌, ◌<◌}
use native.Mathlib.Decide.{ℕ_discrete, dec_lt}
use native.Mathlib.Omega.{arith}
use lib.Ieee.{Float}
use lib.Ieee.Scale.{finite}
use Rattle.arithmetic.proofs.AllLaws.{all-each}
use Rattle.arithmetic.specs.Loop.{range}
use Rattle.arithmetic.proofs.OrderLaws.{and_1}
use Rattle.matrix.specs.Matrix.{at}
use Rattle.methods.specs.Gmw81.{Run, start, divide_row, stored_finite, step_at, step}
use Rattle.methods.specs.Statements.{pivot_matrix}
use Rattle.std.specs.Prelude.{None}
use Rattle.methods.proofs.FiniteEntries.{FiniteEntries, pivot-finite}
use Rattle.methods.proofs.GmwLaws.{started_is, step-at_is}
use Rattle.methods.proofs.GmwRuns.{steps_keep, l₂Of, c₃Of, step-never}
use Rattle.methods.proofs.GmwSteps.{row_stored}

-- ---- row j of l is divided, and tested
stored_row : (n j : ℕ) (l c : List Float) (dj ej : Float) → stored_finite n j l c dj ej ≡ true → (k : ℕ) → k < j → finite (at n l j k) ≡ true
unfolding stored_finite
stored_row n j l c dj ej e k h = all-each 0 j (λ s. finite (at n l j s)) (omega arith) (and_1 _ _ (and_1 _ _ (and_1 _ _ (and_1 _ _ e)))) k (omega arith) h

divided_finite : (n j : ℕ) (c d l : List Float) → j < n → FiniteEntries n l → ((k : ℕ) → k < j → finite (at n (divide_row n j c d l) j k) ≡ true) → FiniteEntries n (divide_row n j c d l)
divided_finite n j c d l pj F f =
    let S = row_stored n j c d l pj F.entries in
    record {
      entries = S.entries;
      each = λ x y px py. elim (ℕ_discrete x j) [
        | yes p ↦ elim (dec_lt y j) [
          | yes q ↦ rw p (f y q)
          | no q ↦ rw (S.rest x y px py (λ k u w g h. omega arith)) (F.each x y px py)
        ]
        | no p ↦ rw (S.rest x y px py (λ k u w g h. p g)) (F.each x y px py)
      ];
    }

-- ---- until the run is refused
abbrev pub FiniteRun : ℕ → Run → Type 0
FiniteRun n s = s.progress.refused ≡ None → FiniteEntries n s.l

step-finite : (n : ℕ) (delta beta : Float) (j k : ℕ) (tie : Bool) (s : Run) → j < n → j + k < n → FiniteRun n s → FiniteRun n (step_at n delta beta j k tie s)
step-finite n delta beta j k tie s pj pk F e =
    let R = step-never n delta beta j k tie s e in
    rw step-at_is (divided_finite n j (pivot_matrix n j k s.c) s.d (pivot_matrix n j k s.l) pj (pivot-finite n j k s.l pj pk (F R.before))
    (stored_row n j (l₂Of n j k s) (c₃Of n delta beta j k s) _ _ R.test))

pub steps_finite : (numbers : List ℕ) (n : ℕ) (delta beta : Float) (a : List Float) → FiniteEntries n a → FiniteRun n (range 0 n (step numbers n delta beta) (start n a))
steps_finite numbers n delta beta a F = steps_keep numbers n delta beta (λ j s. FiniteRun n s) (record { by_step = step-finite n delta beta; refused = λ j s h R. R }) a (rw started_is (λ e. F))
