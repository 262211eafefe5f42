use borrow.Author.Rules.{rules}
use borrow.Author.Tests.{lt-ltb, le-ltb}
use mathlib.Core.Path.{◌∙◌}
use native.Mathlib.Nat.{le_refl}
use Rattle.matrix.proofs.CheckLaws.{search_found, search_turn, search_end}
use Rattle.matrix.proofs.checks.check_distinct.Goals as goal

pub returns-then-i-k : goal.returns-then-i-k
returns-then-i-k c =
    let l = c.loop-k in
    let h = c.loop-k-test.true in
    rw (l.invariant.1 ∙ search_found _ _ _ h (rw (← c.first_same-i.ensures) (lt-ltb _ _ c.if-i-k.true)), lt-ltb _ _ h)

pub loop-k-preserved : goal.loop-k-preserved
loop-k-preserved c =
    let h = c.loop-k-test.true in
    (search rules, c.loop-k.invariant.1 ∙ search_turn _ _ _ h (rw (← c.first_same-i.ensures) (le-ltb _ _ c.if-i-k.false)))

pub returns : goal.returns
returns c =
    let l = c.loop-k in
    rw (l.invariant.1 ∙ search_end _ _ _ l.invariant.0 c.loop-k-test.false, le-ltb _ _ (le_refl _))
