-- Every entry of L and every amount of a run is a double.
use mathlib.Core.Path.{◌≡◌, sym, ap, ◌∙◌}
use mathlib.Core.Bool.{true≢false}
use mathlib.Core.List.{List}
use Prim.Native.Nat.{ℕ, ◌+◌, ◌-◌, ◌*◌, ◌/◌, ◌%◌, ◌<◌}
use lib.ListN.{set}
use lib.Ieee.{Float, binary64, lt, neg}
use lib.Ieee.Fits.{cond-fits, add-fits, sub-fits, div-fits}
use Rattle.arithmetic.specs.Double.{plus_zero, ◌⊕◌, ◌⊗◌, square, max}
use Rattle.arithmetic.proofs.Cases.{Is, is, holds, fails}
use Rattle.arithmetic.proofs.Nearest.{sqrt-fits}
use Rattle.matrix.specs.Matrix.{at, put}
use Rattle.matrix.specs.declared.utils.Eigen.{Eigen}
use Rattle.methods.specs.AcceptedMatrix.{AcceptedMatrix}
use Rattle.methods.specs.Marks.{marked}
use Rattle.methods.specs.Statements.{diagonal_max, pivot_matrix, lower_triangle, reorder}
use Rattle.methods.specs.Gmw81 as gmw
use Rattle.methods.specs.Se.{Run, start, pivot, factorize, least_amount, amount, added, phase_two_step_at, last_amount, pair_of, one_of, root_above, quotient_below, root_below, add_pair, add_one, add_last, last_pair, last_one, begin, run}
use Rattle.std.specs.Prelude.{None}
use Rattle.methods.specs.declared.schnabel_eskow.Tolerances.{Tolerances}
use Rattle.methods.specs.declared.schnabel_eskow.Variant.{Variant}
use Rattle.methods.specs.declared.schnabel_eskow.Variant.TheVariants.{Se90, Se99}
use Rattle.methods.specs.declared.schnabel_eskow.Last.{Last}
use Rattle.methods.specs.declared.schnabel_eskow.Last.TheVariants.{One, Pair}
use Rattle.methods.proofs.GmwLaws.{started_is, step-at_is, finish-stays, finish-goes}
use Rattle.methods.proofs.GmwRuns.{KeptBySteps, steps_keep, step_d, c₃Of, step_e, run_is}
use Rattle.methods.proofs.SeRuns.{KeptInPhaseOne, KeptInPhaseTwo, run-keeps}
use Rattle.results.proofs.SeTests.{norm_at, amount_at}
use Rattle.results.proofs.DoubleEntries.{IsDouble, EachDouble, zero_double, max-double, set-doubles, table-doubles, zeros-doubles, accepted_doubles, sum-double, pivot-doubles, put-doubles, root-doubles, eliminate-doubles, triangle_doubles, reorder-doubles}

-- the lists that a run hands back, where it is not refused
pub record DoublesEnd (l e : List Float) : Type 0 where
  pub factor : EachDouble l
  pub amounts : EachDouble e

-- ---- GMW81: L is made of sums, and every amount is a difference
product-doubles : (n : ℕ) (a b : List Float) → EachDouble (gmw.product n a b)
unfolding gmw.product
product-doubles n a b = table-doubles (n * n) _ (λ k. sum-double 0 n (λ t. at n a (k / n) t ⊗ at n b t (k % n)))

kept-gmw81 : (n : ℕ) (delta beta : Float) → KeptBySteps n delta beta (λ j s. EachDouble s.e)
kept-gmw81 n delta beta = record {
  by_step = λ j k tie s h hk D. rw step-at_is (set-doubles s.e j (step_e n delta beta j k s) (sub-fits binary64 (step_d n delta beta j k s) (at n (c₃Of n delta beta j k s) j j)) D);
  refused = λ j s h D. D;
}

finish-doubles : (n : ℕ) (s : gmw.Run) → EachDouble s.e → (gmw.finish n s).progress.refused ≡ None → DoublesEnd (gmw.finish n s).l (gmw.finish n s).e
finish-doubles n s D = go (is (marked s.progress.refused))
  where
    go : Is (marked s.progress.refused) → (gmw.finish n s).progress.refused ≡ None → DoublesEnd (gmw.finish n s).l (gmw.finish n s).e
    go (holds h) = rw (finish-stays n s h) (λ e. absurd (true≢false (sym h ∙ ap marked e)))
    go (fails h) = rw (finish-goes n s h) (λ e. record { factor = product-doubles n (gmw.unit_lower n s.l) (gmw.dout_of n s.d); amounts = reorder-doubles n s.p s.e D })

pub doubles-gmw81 : (numbers : List ℕ) (n : ℕ) (a : List Float) → (gmw.run numbers n a).progress.refused ≡ None → DoublesEnd (gmw.run numbers n a).l (gmw.run numbers n a).e
doubles-gmw81 numbers n a = rw run_is (finish-doubles n (gmw.stepped numbers n a) (steps_keep numbers n _ _ (λ j s. EachDouble s.e) (kept-gmw81 n _ _) a (rw started_is (zeros-doubles n))))

-- ---- SE90 and SE99
record DoubleRun (s : Run) : Type 0 where
  factor : EachDouble s.l
  amounts : EachDouble s.e
  previous : IsDouble s.progress.delta_prev

kept-one : (v : Variant) (t : Tolerances) (gamma : Float) (n : ℕ) → KeptInPhaseOne v t gamma n DoubleRun
unfolding pivot factorize
kept-one v t gamma n = record {
  by_leave = λ j s h m w D. record { factor = D.factor; amounts = D.amounts; previous = D.previous };
  by_pivot = λ j k tie s h hk m D. record { factor = pivot-doubles n j k s.l D.factor; amounts = D.amounts; previous = D.previous };
  by_factorize = λ j s h m D. record { factor = eliminate-doubles n j s.l D.factor; amounts = D.amounts; previous = D.previous };
}

begin-doubles : (n k : ℕ) (s : Run) → DoubleRun s → DoubleRun (begin n k s)
unfolding begin
begin-doubles n k s D = record { factor = D.factor; amounts = D.amounts; previous = D.previous }

added-double : (x e : Float) → IsDouble x → IsDouble (added x e)
added-double x e p = cond-fits binary64 (lt plus_zero e) (x ⊕ e) x (add-fits binary64 x e) p

amount-double : (v : Variant) (t : Tolerances) (gamma delta-prev ljj normj : Float) → IsDouble delta-prev → IsDouble (amount v t gamma delta-prev ljj normj)
unfolding amount
amount-double v t gamma delta-prev ljj normj p =
    max-double (max plus_zero delta-prev) (neg ljj ⊕ max normj (least_amount v t gamma)) (max-double plus_zero delta-prev zero_double p) (add-fits binary64 (neg ljj) (max normj (least_amount v t gamma)))

step-doubles : (v : Variant) (t : Tolerances) (gamma : Float) (n j k : ℕ) (s : Run) → DoubleRun s → DoubleRun (phase_two_step_at v t gamma n j k s)
unfolding phase_two_step_at
step-doubles v t gamma n j k s D =
    let l₁ = pivot_matrix n j k s.l in
    let D₁ = pivot-doubles n j k s.l D.factor in
    let ej = amount_at v t gamma n j k s in
    let p : IsDouble ej = amount-double v t gamma s.progress.delta_prev (at n l₁ j j) (norm_at n j k s) D.previous in
    record {
      factor = eliminate-doubles n j _ (put-doubles n l₁ j j _ (added-double (at n l₁ j j) ej (D₁.each (j * n + j))) D₁);
      amounts = set-doubles s.e j ej p D.amounts;
      previous = cond-fits binary64 (lt plus_zero ej) ej s.progress.delta_prev p D.previous;
    }

-- ---- what is added last
abbrev LastDouble : Last → Type 0
LastDouble (One ej) = IsDouble ej
LastDouble (Pair x ea) = IsDouble ea

last_double : (v : Variant) (t : Tolerances) (gamma : Float) (x : Eigen) → IsDouble (last_amount v t gamma x)
unfolding last_amount
last_double Se90 t gamma x = add-fits binary64 (neg x.lo) _
last_double Se99 t gamma x = add-fits binary64 (neg x.lo) _

pair_double : (v : Variant) (t : Tolerances) (gamma : Float) (n : ℕ) (l : List Float) (delta-prev : Float) → IsDouble delta-prev → LastDouble (pair_of v t gamma n l delta-prev)
unfolding pair_of
pair_double v t gamma n l delta-prev p = max-double _ delta-prev (max-double plus_zero _ zero_double (last_double v t gamma _)) p

one-double : (v : Variant) (t : Tolerances) (gamma ljj : Float) → LastDouble (one_of v t gamma ljj)
unfolding one_of
one-double v t gamma ljj = add-fits binary64 (neg ljj) _

block_doubles : (n : ℕ) (l : List Float) → EachDouble l → EachDouble (root_below n (quotient_below n (root_above n l)))
block_doubles n l D =
    let l₁ = root_above n l in
    let l₂ = quotient_below n l₁ in
    let D₁ : EachDouble l₁ = root-doubles n (n - 2) l D in
    let D₂ : EachDouble l₂ = put-doubles n l₁ (n - 1) (n - 2) _ (div-fits binary64 (at n l₁ (n - 1) (n - 2)) (at n l₁ (n - 2) (n - 2))) D₁ in
    put-doubles n l₂ (n - 1) (n - 1) _ (sqrt-fits _ (sub-fits binary64 (at n l₂ (n - 1) (n - 1)) (square (at n l₂ (n - 1) (n - 2))))) D₂

last_doubles : (n : ℕ) (last : Last) (s : Run) → LastDouble last → DoubleRun s → DoubleRun (add_last n last s)
unfolding add_one add_pair
last_doubles n (One ej) s p D = record {
  factor = root-doubles n (n - 1) _ (put-doubles n s.l (n - 1) (n - 1) _ (add-fits binary64 (at n s.l (n - 1) (n - 1)) ej) D.factor);
  amounts = set-doubles s.e (n - 1) ej p D.amounts;
  previous = D.previous;
}
last_doubles n (Pair x ea) s p D =
    let l₁ = put n s.l (n - 2) (n - 2) (added (at n s.l (n - 2) (n - 2)) ea) in
    let D₁ : EachDouble l₁ = put-doubles n s.l (n - 2) (n - 2) _ (added-double (at n s.l (n - 2) (n - 2)) ea (D.factor.each ((n - 2) * n + (n - 2)))) D.factor in
    record {
      factor = block_doubles n _ (put-doubles n l₁ (n - 1) (n - 1) _ (added-double (at n l₁ (n - 1) (n - 1)) ea (D₁.each ((n - 1) * n + (n - 1)))) D₁);
      amounts = set-doubles (set s.e (n - 2) ea) (n - 1) ea p (set-doubles s.e (n - 2) ea p D.amounts);
      previous = D.previous;
    }

kept-two : (v : Variant) (t : Tolerances) (gamma : Float) (n : ℕ) → KeptInPhaseTwo v t gamma n DoubleRun DoubleRun
unfolding last_pair last_one
kept-two v t gamma n = record {
  after_one = λ s D. D;
  by_begin = λ k s h D. begin-doubles n k s D;
  by_step = λ j k s h hk D. step-doubles v t gamma n j k s D;
  by_pair = λ s h D. last_doubles n (pair_of v t gamma n s.l s.progress.delta_prev) s (pair_double v t gamma n s.l s.progress.delta_prev D.previous) D;
  by_one = λ s h m D. last_doubles n (one_of v t gamma (at n s.l (n - 1) (n - 1))) s (one-double v t gamma (at n s.l (n - 1) (n - 1))) D;
}

start-doubles : (n : ℕ) (a : List Float) → 0 < n → AcceptedMatrix n a → DoubleRun (start n a)
unfolding start
start-doubles n a some A = record { factor = accepted_doubles n a some A; amounts = zeros-doubles n; previous = zero_double }

pub doubles-se : (v : Variant) (t : Tolerances) (numbers : List ℕ) (n : ℕ) (a : List Float) → 0 < n → AcceptedMatrix n a → DoublesEnd (lower_triangle n (run v t numbers n a).l) (reorder n (run v t numbers n a).p (run v t numbers n a).e)
doubles-se v t numbers n a some A =
    let D = run-keeps v t numbers n a DoubleRun DoubleRun (kept-one v t (diagonal_max n a) n) (kept-two v t (diagonal_max n a) n) (start-doubles n a some A) in
    record { factor = triangle_doubles n (run v t numbers n a).l D.factor; amounts = reorder-doubles n (run v t numbers n a).p (run v t numbers n a).e D.amounts }
