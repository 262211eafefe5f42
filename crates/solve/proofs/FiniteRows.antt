-- What solving answers: n finite doubles, for every L, p and b; after 9 they are +0.0.
use mathlib.Core.Path.{◌≡◌, refl, ◌∙◌}
use mathlib.Core.Bool.{Bool, true, false, not, cond}
use mathlib.Core.List.{List}
use Prim.Native.Nat.{ℕ, ◌-◌, ◌<◌}
use native.Mathlib.Decide.{ℕ_discrete}
use native.Mathlib.Omega.{arith}
use lib.Dec.{T}
use lib.ListN.{length, get_or, set, length-set, length-replicate, get_or-replicate}
use lib.Seq.{get_or-set_same, get_or-set_other}
use lib.Ieee.{Float, nan, binary64, fits, of_bits}
use lib.Ieee.Bits.{of_bits-fits}
use lib.Ieee.Fits.{div-fits}
use lib.Ieee.Scale.{finite}
use borrow.Author.Tests.{not-false}
use Rattle.arithmetic.specs.Double.{plus_zero}
use Rattle.arithmetic.specs.DoubleList.{AllDoubles}
use Rattle.arithmetic.specs.Outcome.{complete}
use Rattle.arithmetic.specs.declared.refusal.Refusal.TheVariants.{StoredNotFinite}
use Rattle.arithmetic.proofs.LoopLaws.{range-ind}
use Rattle.arithmetic.proofs.OutcomeLaws.{refuse-complete}
use Rattle.matrix.specs.Matrix.{zeros}
use Rattle.solve.specs.Substitution.{Rows, store, forward_row, forward_value, forward, backward_row, backward_value, backward, put_back, solve}

-- n values, each a finite double
record FiniteList (n : ℕ) (xs : List Float) : Type 0 where
  len : length xs ≡ n
  each : (k : ℕ) → k < n → finite (get_or xs k nan) ≡ true
  double : (k : ℕ) → k < n → T (fits binary64 (get_or xs k nan))

zero_finite : finite plus_zero ≡ true
unfolding of_bits
zero_finite = refl

zeros-finite : (n : ℕ) → FiniteList n (zeros n)
zeros-finite n = record {
  len = length-replicate n plus_zero;
  each = λ k h. rw (get_or-replicate n k plus_zero nan h) zero_finite;
  double = λ k h. rw (get_or-replicate n k plus_zero nan h) (of_bits-fits binary64 0);
}

set_keeps : (P : Float → Type 0) (xs : List Float) (i : ℕ) (v : Float) → P v → (k : ℕ) → k < length xs → P (get_or xs k nan) → P (get_or (set xs i v) k nan)
set_keeps P xs i v p k h q = elim (ℕ_discrete k i) [ yes e ↦ rw (e, get_or-set_same xs i v nan (omega arith)) p | no d ↦ rw (get_or-set_other xs i k v nan d) q ]

set-finite : (n : ℕ) (xs : List Float) (i : ℕ) (v : Float) → finite v ≡ true → T (fits binary64 v) → FiniteList n xs → FiniteList n (set xs i v)
set-finite n xs i v f d F = record {
  len = length-set xs i v ∙ F.len;
  each = λ k h. set_keeps (λ x. finite x ≡ true) xs i v f k (omega arith) (F.each k h);
  double = λ k h. set_keeps (λ x. T (fits binary64 x)) xs i v d k (omega arith) (F.double k h);
}

-- ---- the rows solved, unless one was refused
abbrev FiniteRows : ℕ → Rows → Type 0
FiniteRows n s = complete s.outcome ≡ true → FiniteList n s.values

row_finite : (n t : ℕ) (v : Float) (s : Rows) → T (fits binary64 v) → FiniteRows n s → FiniteRows n (cond (complete s.outcome) (store t v s.values) s)
row_finite n t v s d F = go (complete s.outcome) refl
  where
    go : (b : Bool) → complete s.outcome ≡ b → FiniteRows n (cond b (store t v s.values) s)
    go true e h = set-finite n s.values t v (not-false (finite v) (refuse-complete (not (finite v)) (StoredNotFinite t) h)) d (F e)
    go false e h = F h

forward-finite : (n : ℕ) (l : List Float) (p : List ℕ) (b : List Float) → FiniteRows n (forward n l p b)
unfolding forward forward_row
forward-finite n l p b = range-ind (λ t s. FiniteRows n s) 0 n (forward_row n l p b) _ (omega arith) (λ h. zeros-finite n)
    (λ t u w s F. row_finite n t (forward_value n l p b t s.values) s (div-fits binary64 _ _) F)

backward-finite : (n : ℕ) (l : List Float) (s : Rows) → FiniteRows n s → FiniteRows n (backward n l s)
unfolding backward backward_row
backward-finite n l s F = range-ind (λ i s. FiniteRows n s) 0 n (λ i. backward_row n l (n - 1 - i)) s (omega arith) F
    (λ i u w s F. row_finite n (n - 1 - i) (backward_value n l (n - 1 - i) s.values) s (div-fits binary64 _ _) F)

put-back_finite : (n : ℕ) (p : List ℕ) (w : List Float) → FiniteList n w → FiniteList n (put_back n p w)
unfolding put_back
put-back_finite n p w F = range-ind (λ t y. FiniteList n y) 0 n (λ t y. set y (get_or p t 0) (get_or w t nan)) (zeros n) (omega arith) (zeros-finite n)
    (λ t u h y Y. set-finite n y (get_or p t 0) (get_or w t nan) (F.each t h) (F.double t h) Y)

-- ---- the answer
module _ (n : ℕ) (l : List Float) (p : List ℕ) (b : List Float) where
  answer : FiniteList n (solve n l p b).y
  unfolding solve
  answer = go (complete solved.outcome) refl
    where
      solved : Rows
      solved = backward n l (forward n l p b)

      go : (c : Bool) → complete solved.outcome ≡ c → FiniteList n (cond c (put_back n p solved.values) (zeros n))
      go true e = put-back_finite n p solved.values (backward-finite n l (forward n l p b) (forward-finite n l p b) e)
      go false e = zeros-finite n

  pub solve-length : length (solve n l p b).y ≡ n
  solve-length = answer.len

  pub solve-finite : (k : ℕ) → k < n → finite (get_or (solve n l p b).y k nan) ≡ true
  solve-finite = answer.each

  pub solve-doubles : AllDoubles (solve n l p b).y
  solve-doubles k h = answer.double k (omega (arith, solve-length))
