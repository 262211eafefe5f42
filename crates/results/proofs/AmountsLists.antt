-- Lists of amounts: a store of one more, and the list put back in the order of the original rows.
use mathlib.Core.Path.{◌≡◌, refl, ◌∙◌}
use mathlib.Core.Bool.{true, false}
use mathlib.Core.List.{List}
use Prim.Native.Nat.{ℕ}
use native.Mathlib.Decide.{ℕ_discrete}
use native.Mathlib.Omega.{arith}
use lib.ListN.{get_or, set, length-set, length-replicate, get_or-replicate}
use lib.Seq.{get_or-set_same, get_or-set_other}
use lib.Ieee.{Float, nan, lt}
use lib.Ieee.Scale.{finite}
use Rattle.arithmetic.specs.Double.{plus_zero}
use Rattle.arithmetic.proofs.LoopLaws.{range-ind}
use Rattle.arithmetic.proofs.OrderLaws.{lt-irreflexive}
use Rattle.matrix.specs.Matrix.{zeros}
use Rattle.methods.specs.Statements.{reorder}
use Rattle.methods.specs.Result.{filled}
use Rattle.methods.specs.Marks.{Mark}
use Rattle.std.specs.Prelude.{None, Some}
use Rattle.methods.proofs.FiniteEntries.{zero_finite}
use Rattle.results.specs.Results.{Amounts}

pub zeros-amounts : (n : ℕ) → Amounts n (zeros n)
zeros-amounts n = record {
  len = length-replicate n plus_zero;
  finite_amounts = λ r h. rw (get_or-replicate n r plus_zero nan h) zero_finite;
  not_negative = λ r h. rw (get_or-replicate n r plus_zero nan h) (lt-irreflexive plus_zero);
}

pub set-amounts : (n : ℕ) (e : List Float) (j : ℕ) (x : Float) → finite x ≡ true → lt x plus_zero ≡ false → Amounts n e → Amounts n (set e j x)
set-amounts n e j x f p A = record {
  len = length-set e j x ∙ A.len;
  finite_amounts = λ r h. elim (ℕ_discrete r j) [
    | yes q ↦ rw (q, get_or-set_same e j x nan (omega (arith, A.len))) f
    | no q ↦ rw (get_or-set_other e j r x nan q) (A.finite_amounts r h)
  ];
  not_negative = λ r h. elim (ℕ_discrete r j) [
    | yes q ↦ rw (q, get_or-set_same e j x nan (omega (arith, A.len))) p
    | no q ↦ rw (get_or-set_other e j r x nan q) (A.not_negative r h)
  ];
}

-- whatever the order is
pub reorder-amounts : (n : ℕ) (p : List ℕ) (e : List Float) → Amounts n e → Amounts n (reorder n p e)
unfolding reorder
reorder-amounts n p e A = range-ind (λ i x. Amounts n x) 0 n (λ i x. set x (get_or p i 0) (get_or e i nan)) e (omega arith) A
    (λ i u w x B. set-amounts n x (get_or p i 0) (get_or e i nan) (A.finite_amounts i w) (A.not_negative i w) B)

-- the fillings of a refused run
pub filled-amounts : (m : Mark) (n : ℕ) (e : List Float) → (m ≡ None → Amounts n e) → Amounts n (filled m n e)
filled-amounts None n e h = h refl
filled-amounts (Some k) n e h = zeros-amounts n
