-- The amount of a single last row, -x + max(least amount, ..), is not negative: SE99 reaches it by its first test, SE90 on a pivot at or
-- below zero.
use mathlib.Core.Path.{◌≡◌, refl, sym, ap₂, ◌∙◌, subst}
use mathlib.Core.Bool.{true, false, cond, ◌||◌, false≢true}
use mathlib.Core.List.{List}
use mathlib.Core.Logic.{inl, inr}
use Prim.Native.Nat.{ℕ, ◌+◌, ◌-◌, ◌<◌}
use native.Mathlib.Omega.{arith}
use lib.Dec.{T}
use lib.Ieee.{Float, nan, inf, fin, neg, lt, is_nan, of_bits}
use Rattle.arithmetic.specs.Double.{plus_zero, ◌⊕◌, ◌⊗◌, abs, max}
use Rattle.arithmetic.specs.Loop.{range}
use Rattle.arithmetic.proofs.LoopLaws.{range-ind, range-more, range_none}
use Rattle.arithmetic.proofs.OrderLaws.{lt-transitive, lt-cotransitive, none_above_infinity}
use Rattle.arithmetic.proofs.SignLaws.{abs-sign}
use Rattle.arithmetic.specs.AtLeast.{AtLeast}
use Rattle.arithmetic.proofs.Cases.{or_left, Is, is, holds, fails, not_holds}
use Rattle.arithmetic.proofs.Maximum.{at_least_self, at_least_through, max-left, lt-right_number, none_below_nan, none_below_minus_infinity, negative_not_above, not_less-of_le}
use Rattle.arithmetic.proofs.Products.{Positive, Unsigned, positive_times, above-negative}
use Rattle.arithmetic.proofs.Difference.{neg_add_not_negative}
use Rattle.matrix.specs.Matrix.{at}
use Rattle.methods.specs.Factor.{tolerances}
use Rattle.methods.specs.Statements.{larger_magnitude, fold_diagonal, diagonal_max}
use Rattle.methods.specs.Se.{aii_max, aii_min, leaves_before, least_amount}
use Rattle.methods.specs.declared.schnabel_eskow.Tolerances.{Tolerances}
use Rattle.methods.specs.declared.schnabel_eskow.Variant.{Variant}
use Rattle.methods.specs.declared.schnabel_eskow.Variant.TheVariants.{Se90, Se99}
use Rattle.methods.proofs.PhaseOne.{se90-leaves_last, se99-stays_last}
use Rattle.methods.proofs.SeRuns.{Leaves}

-- what the amounts need of the tolerances
pub record PositiveTolerances (t : Tolerances) : Type 0 where
  pub tau : Positive t.tau
  pub tau-bar : Positive t.tau_bar
  pub mu : Positive t.mu

pub tolerances-positive : PositiveTolerances tolerances
unfolding lt of_bits
tolerances-positive = record { tau = record { is_finite = refl; above_zero = refl }; tau-bar = record { is_finite = refl; above_zero = refl }; mu = record { is_finite = refl; above_zero = refl } }

-- ---- gamma is a number without a sign
zero_unsigned : Unsigned plus_zero
unfolding is_nan of_bits
zero_unsigned = record { number = refl; sign = refl }

larger_unsigned : (acc x : Float) → Unsigned acc → Unsigned (larger_magnitude acc x)
unfolding larger_magnitude
larger_unsigned acc x U = go (is (lt acc (abs x)))
  where
    go : Is (lt acc (abs x)) → Unsigned (larger_magnitude acc x)
    go (holds e) = rw e (record { number = lt-right_number acc (abs x) e; sign = abs-sign x })
    go (fails e) = rw e U

gamma_unsigned : (n : ℕ) (a : List Float) → Unsigned (diagonal_max n a)
unfolding diagonal_max fold_diagonal
gamma_unsigned n a = range-ind (λ i acc. Unsigned acc) 0 n (fold_diagonal n a) plus_zero (omega arith) zero_unsigned (λ i p q acc U. larger_unsigned acc (at n a i i) U)

-- ---- aii_max and aii_min of one value
abbrev alone_max : Float → Float
alone_max x = cond (lt (inf true) x) x (inf true)

abbrev alone_min : Float → Float
alone_min x = cond (lt x (inf false)) x (inf false)

range-one : {S : Type 0} (a b : ℕ) (body : ℕ → S → S) (s : S) → b ≡ a + 1 → range a b body s ≡ body a s
range-one a b body s e = rw (e, range-more a a body s (omega arith), range_none a a body s (omega arith))

module _ (n : ℕ) (l : List Float) (some : 0 < n) where
  max-of_one : aii_max n (n - 1) l ≡ alone_max (at n l (n - 1) (n - 1))
  unfolding aii_max
  max-of_one = range-one (n - 1) n (λ i acc. cond (lt acc (at n l i i)) (at n l i i) acc) (inf true) (omega arith)

  min-of_one : aii_min n (n - 1) l ≡ alone_min (at n l (n - 1) (n - 1))
  unfolding aii_min
  min-of_one = range-one (n - 1) n (λ i acc. cond (lt (at n l i i) acc) (at n l i i) acc) (inf false) (omega arith)

-- ---- where phase one is left at n - 1, the last row is not above what is at least the least amount
-- y is not negative, and x not above zero
zero_between : (y x : Float) → lt y plus_zero ≡ false → lt plus_zero x ≡ false → lt y x ≡ false
zero_between y x p q = not_holds (lt y x) (λ k. false≢true (sym q ∙ lt-cotransitive y plus_zero x zero_unsigned.number k p))

-- SE99, g its least amount: where x is not negative only the first test can pass; where it is, no test is needed
alone-not_less : (mu g x y : Float) → Positive mu → AtLeast plus_zero g → AtLeast g y → (lt (alone_max x) g || lt (alone_min x) (neg mu ⊗ alone_max x)) ≡ true → lt y x ≡ false
unfolding lt
alone-not_less mu g nan y P p q h = none_below_nan y
alone-not_less mu g (inf true) y P p q h = none_below_minus_infinity y
alone-not_less mu g (inf false) y P p q h = absurd (false≢true (sym (ap₂ ◌||◌ (none_above_infinity g) (none_above_infinity (neg mu ⊗ inf false))) ∙ h))
alone-not_less mu g (fin false m e) y P p q h =
    let x = fin false m e in
    not_holds (lt y x) (λ k. false≢true (sym q.not_less ∙ lt-transitive y x g k (or_left (lt x g) _ (above-negative mu P m e) h)))
alone-not_less mu g (fin true m e) y P p q h = zero_between y (fin true m e) (at_least_through plus_zero g y p q) (negative_not_above m e)

module _ (t : Tolerances) (P : PositiveTolerances t) (n : ℕ) (a l : List Float) (some : 0 < n) where
  abbrev gamma : Float
  gamma = diagonal_max n a

  abbrev last : Float
  last = at n l (n - 1) (n - 1)

  least-not_negative : (v : Variant) → AtLeast plus_zero (least_amount v t gamma)
  unfolding least_amount
  least-not_negative Se90 = positive_times t.tau gamma P.tau (gamma_unsigned n a)
  least-not_negative Se99 = positive_times t.tau_bar gamma P.tau-bar (gamma_unsigned n a)

  last_not_above : (v : Variant) (y : Float) → Leaves v t gamma n (n - 1) l → AtLeast (least_amount v t gamma) y → lt y last ≡ false
  unfolding leaves_before least_amount
  last_not_above Se90 y (inl e) q = absurd (false≢true e)
  last_not_above Se90 y (inr e) q = zero_between y last (at_least_through plus_zero (t.tau ⊗ gamma) y (least-not_negative Se90) q)
      (not_less-of_le last plus_zero (subst T (sym (sym (se90-leaves_last t gamma n (n - 1) l (omega arith)) ∙ e)) tt))
  last_not_above Se99 y (inl e) q = alone-not_less t.mu (t.tau_bar ⊗ gamma) last y P.mu (least-not_negative Se99) q (rw (max-of_one n l some, min-of_one n l some) at e)
  last_not_above Se99 y (inr e) q = absurd (false≢true (sym (se99-stays_last t gamma n (n - 1) l (omega arith)) ∙ e))

  -- the amount of the last row
  pub one-not_negative : (v : Variant) (other : Float) → Leaves v t gamma n (n - 1) l → lt (neg last ⊕ max (least_amount v t gamma) other) plus_zero ≡ false
  one-not_negative v other w =
      let g = least_amount v t gamma in
      neg_add_not_negative last (max g other) (last_not_above v (max g other) w (max-left g g other (at_least_self g (least-not_negative v).number)))
