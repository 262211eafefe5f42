use borrow.Author.Rules.{rules}
use borrow.Author.Tests.{le-leb, lt-leb, lt-ltb, le-ltb}
use mathlib.Core.Path.{◌∙◌}
use native.Mathlib.Nat.{le_refl}
use Rattle.matrix.proofs.CheckLaws.{search_found, search_turn, search_end}
use Rattle.byte_solve.proofs.check_lower.Goals as goal

pub returns-then-j-i : goal.returns-then-j-i
returns-then-j-i c =
    let h = c.loop-i-test.true in
    let e = c.first_in_row-j.ensures in
    rw (c.loop-i.invariant.1 ∙ search_found _ _ _ h (le-leb _ _ (rw e at c.if-j-i.true)), lt-ltb _ _ h, e)

pub loop-i-preserved : goal.loop-i-preserved
loop-i-preserved c =
    (search rules, c.loop-i.invariant.1 ∙ search_turn _ _ _ c.loop-i-test.true (lt-leb _ _ (rw c.first_in_row-j.ensures at c.if-j-i.false)))

pub returns : goal.returns
returns c =
    let l = c.loop-i in
    rw (l.invariant.1 ∙ search_end _ _ _ l.invariant.0 c.loop-i-test.false, le-ltb _ _ (le_refl _))
