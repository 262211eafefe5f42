use borrow.Author.Rules.{rules}
use borrow.Author.Tests.{le-leb, lt-leb, lt-ltb, le-ltb}
use mathlib.Core.Bool.{Bool, not}
use mathlib.Core.List.{List}
use mathlib.Core.Path.{◌≡◌, refl, sym, ap, ◌∙◌}
use Prim.Native.Nat.{ℕ, ◌+◌}
use native.Mathlib.Decide.{dec_lt}
use native.Mathlib.Nat.{le_refl}
use native.Mathlib.Omega.{arith}
use lib.Dec.{leb}
use lib.Ieee.{Float}
use lib.Ieee.Scale.{finite}
use Rattle.arithmetic.specs.All.{all}
use Rattle.matrix.specs.Matrix.{at}
use Rattle.matrix.proofs.CheckLaws.{none_bad, search_found, search_turn, search_end}
use Rattle.solve.specs.Checks.{first_in_row, first_row}
use Rattle.solve.proofs.checks.check_lower.Invariants.{not_finite_row}
use Rattle.solve.proofs.checks.check_lower.Goals as goal

-- what the test of row i says
tested : (n : ℕ) (l : List Float) (i : ℕ) {ok : Bool} → ok ≡ all 0 (i + 1) (λ j. finite (at n l i j)) → not_finite_row n l i ≡ not ok
tested n l i e = sym (ap not (e ∙ none_bad (λ j. not (finite (at n l i j))) (i + 1) (λ j. finite (at n l i j)) (λ j. refl)) ∙ behind (first_in_row n l i))
  where
    behind : (j : ℕ) → not (leb (i + 1) j) ≡ leb j i
    behind j = elim (dec_lt i j) [ yes h ↦ rw (le-leb (i + 1) j (omega arith), lt-leb j i h) | no h ↦ rw (lt-leb (i + 1) j (omega arith), le-leb j i (omega arith)) ]

pub returns-then-not-row_finite : goal.returns-then-not-row_finite
returns-then-not-row_finite c =
    let h = c.loop-i-test.true in
    let a = c.args in
    let i = c.loop-i.i in
    let e : first_row a.n a.l.now ≡ i = c.loop-i.invariant.1 ∙ search_found _ _ _ h (tested a.n a.l.now i c.row_finite.ensures ∙ (ap not c.if-not-row_finite.true)) in
    rw (e, lt-ltb _ _ h, c.first_in_row.ensures)

pub loop-i-preserved : goal.loop-i-preserved
loop-i-preserved c =
    let a = c.args in
    let good = tested a.n a.l.now c.loop-i.i c.row_finite.ensures ∙ (ap not c.if-not-row_finite.false) in
    (search rules, c.loop-i.invariant.1 ∙ search_turn _ _ _ c.loop-i-test.true good)

pub returns : goal.returns
returns c =
    let l = c.loop-i in
    rw (l.invariant.1 ∙ search_end _ _ _ l.invariant.0 c.loop-i-test.false, le-ltb _ _ (le_refl _))
