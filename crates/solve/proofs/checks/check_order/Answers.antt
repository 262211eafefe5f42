use borrow.Author.Rules.{rules}
use borrow.Author.Tests.{le-leb, lt-leb, lt-ltb, le-ltb}
use mathlib.Core.Path.{sym, ◌∙◌}
use native.Mathlib.Nat.{le_refl}
use Rattle.matrix.proofs.CheckLaws.{search_found, search_turn, search_end}
use Rattle.solve.proofs.checks.check_order.Goals as goal
use Rattle.solve.proofs.checks.check_order.Goals.{then-n-index-via-then-n-index, then-n-index-via-else-n-index+then-came_before}

pub returns-then-n-index : goal.returns-then-n-index
returns-then-n-index c =
    rw (
      c.loop-k.invariant.1 ∙ search_found _ _ _ c.loop-k-test.true (elim c.then-n-index.branch [
        | then-n-index-via-then-n-index w ↦ rw (le-leb _ _ w.if-n-index.true)
        | then-n-index-via-else-n-index+then-came_before w ↦ rw (lt-leb _ _ w.if-n-index.false) (sym w.came_before.ensures ∙ w.if-came_before.true)
      ]),
      lt-ltb _ _ c.loop-k-test.true,
    )

pub loop-k-preserved : goal.loop-k-preserved
loop-k-preserved c =
    (search rules, c.loop-k.invariant.1 ∙ search_turn _ _ _ c.loop-k-test.true (rw (lt-leb _ _ c.if-n-index.false) (sym c.came_before.ensures ∙ c.if-came_before.false)))

pub returns : goal.returns
returns c =
    let l = c.loop-k in
    rw (l.invariant.1 ∙ search_end _ _ _ l.invariant.0 c.loop-k-test.false, le-ltb _ _ (le_refl _))
