-- An accepted circle's radius is finite and not negative.
use mathlib.Core.Path.{◌≡◌}
use mathlib.Core.List.{List}
use mathlib.Core.Bool.{Bool, true, false, cond, ◌&&◌, ◌||◌}
use Prim.Native.Nat.{ℕ, ◌≤◌, ◌<◌}
use native.Mathlib.Omega.{arith}
use lib.Dec.{ltb, eqb}
use borrow.Author.Tests.{ltb-false, not-false}
use lib.Ieee.{Float, lt, is_nan}
use lib.Ieee.Scale.{finite}
use Rattle.arithmetic.specs.Double.{plus_zero, ◌⊕◌, abs}
use Rattle.arithmetic.proofs.LoopLaws.{range-ind}
use Rattle.arithmetic.proofs.FirstLaws.{first-is}
use Rattle.arithmetic.proofs.OrderLaws.{and_1, and_2}
use Rattle.arithmetic.specs.Outcome.{complete}
use Rattle.arithmetic.proofs.OutcomeLaws.{refuse-complete}
use Rattle.arithmetic.specs.Sign.{sign_of}
use Rattle.arithmetic.proofs.SignLaws.{abs-sign, not_negative, plus_zero-sign, add-sign}
use Rattle.arithmetic.specs.declared.refusal.Refusal.TheVariants.{StoredNotFinite}
use Rattle.matrix.specs.Matrix.{at}
use Rattle.circles.specs.Circles.{add_magnitudes, sums, radius, overflows, first_overflow, overflow}
use Rattle.circles.specs.declared.gershgorin.Sums.{Sums}

-- ---- no sum of magnitudes has a sign
record Unsigned (s : Sums) : Type 0 where
  row : sign_of s.ri ≡ false
  column : sign_of s.ci ≡ false

sums-unsigned : (n : ℕ) (mat : List Float) (i : ℕ) → Unsigned (sums n mat i)
unfolding sums add_magnitudes
sums-unsigned n mat i = range-ind (λ j s. Unsigned s) 0 n (add_magnitudes n mat i) (record { ri = plus_zero; ci = plus_zero }) (omega arith)
    (record { row = plus_zero-sign; column = plus_zero-sign })
    (λ j p q s U. pick (eqb i j) s (record { ri = s.ri ⊕ abs (at n mat i j); ci = s.ci ⊕ abs (at n mat j i) }) U
    (record { row = add-sign s.ri (abs (at n mat i j)) U.row (abs-sign (at n mat i j)); column = add-sign s.ci (abs (at n mat j i)) U.column (abs-sign (at n mat j i)) }))
  where
    pick : (b : Bool) (s t : Sums) → Unsigned s → Unsigned t → Unsigned (cond b s t)
    pick true s t u v = u
    pick false s t u v = v

-- a minimum is one of the two
choose : (P : Float → Type 0) (b : Bool) (x y : Float) → P x → P y → P (cond b x y)
choose P true x y p q = p
choose P false x y p q = q

-- no row overflows in an accepted call
rows-finite : (n : ℕ) (mat : List Float) → complete (overflow n mat) ≡ true → (i : ℕ) → i < n → overflows (sums n mat i) ≡ false
rows-finite n mat h i q =
    let e = refuse-complete (ltb (first_overflow n mat) n) (StoredNotFinite (first_overflow n mat)) h in
    let l : n ≤ first_overflow n mat = ltb-false (first_overflow n mat) n e in
    good i (omega arith)
  where
    good : (i : ℕ) → i < first_overflow n mat → overflows (sums n mat i) ≡ false
    good i p = unfold first_overflow in (first-is (λ k. overflows (sums n mat k)) n).good i (omega arith) p

pub radius-finite : (n : ℕ) (mat : List Float) → complete (overflow n mat) ≡ true → (i : ℕ) → i < n → finite (radius n mat i) ≡ true
radius-finite n mat h i q =
    let s = sums n mat i in
    let e : (finite s.ri && finite s.ci) ≡ true = not-false _ (rows-finite n mat h i q) in
    choose (λ v. finite v ≡ true) (lt s.ci s.ri || is_nan s.ri) s.ci s.ri (and_2 (finite s.ri) (finite s.ci) e) (and_1 (finite s.ri) (finite s.ci) e)

pub radius-not_negative : (n : ℕ) (mat : List Float) (i : ℕ) → lt (radius n mat i) plus_zero ≡ false
radius-not_negative n mat i =
    let s = sums n mat i in
    let U = sums-unsigned n mat i in
    choose (λ v. lt v plus_zero ≡ false) (lt s.ci s.ri || is_nan s.ri) s.ci s.ri (not_negative s.ci U.column) (not_negative s.ri U.row)
