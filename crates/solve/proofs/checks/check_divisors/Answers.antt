use borrow.Author.Rules.{rules}
use borrow.Author.Tests.{lt-ltb, le-ltb}
use mathlib.Core.Path.{◌∙◌}
use native.Mathlib.Nat.{le_refl}
use Rattle.matrix.proofs.CheckLaws.{search_found, search_turn, search_end}
use Rattle.solve.proofs.checks.check_divisors.Goals as goal

pub returns-then-get : goal.returns-then-get
returns-then-get c =
    rw (c.loop-i.invariant.1 ∙ search_found _ _ _ c.loop-i-test.true (rw c.get.ensures at c.if-get.true), lt-ltb _ _ c.loop-i-test.true)

pub loop-i-preserved : goal.loop-i-preserved
loop-i-preserved c =
    (search rules, c.loop-i.invariant.1 ∙ search_turn _ _ _ c.loop-i-test.true (rw c.get.ensures at c.if-get.false))

pub returns : goal.returns
returns c =
    let l = c.loop-i in
    rw (l.invariant.1 ∙ search_end _ _ _ l.invariant.0 c.loop-i-test.false, le-ltb _ _ (le_refl _))
