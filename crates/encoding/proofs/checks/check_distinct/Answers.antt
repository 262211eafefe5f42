use borrow.Author.Rules.{rules}
use borrow.Author.Tests.{lt-ltb, le-ltb}
use mathlib.Core.Path.{ap, ◌∙◌}
use native.Mathlib.Nat.{le_refl}
use Rattle.arithmetic.specs.First.{first_from}
use Rattle.matrix.proofs.CheckLaws.{search_start, search_found, search_turn, search_end}
use Rattle.encoding.proofs.ContractNumbers.{numbers-length}
use Rattle.encoding.proofs.checks.check_distinct.Goals as goal

pub loop-k-init : goal.loop-k-init
loop-k-init c = (search rules, ap (first_from _ 0) (numbers-length _) ∙ search_start _ _)

pub returns-then-first_same-k : goal.returns-then-first_same-k
returns-then-first_same-k c =
    let t = c.before.before in
    let h = t.loop-k-test.true in
    rw (t.loop-k.invariant.1 ∙ search_found _ _ _ h (rw (← c.first_same.ensures) (lt-ltb _ _ c.if-first_same-k.true)), numbers-length, lt-ltb _ _ h)

pub loop-k-preserved : goal.loop-k-preserved
loop-k-preserved c =
    let t = c.before.before in
    (search rules, t.loop-k.invariant.1 ∙ search_turn _ _ _ t.loop-k-test.true (rw (← c.first_same.ensures) (le-ltb _ _ c.if-first_same-k.false)))

pub returns : goal.returns
returns c =
    let l = c.loop-k in
    rw (l.invariant.1 ∙ search_end _ _ _ l.invariant.0 c.loop-k-test.false, numbers-length, le-ltb _ _ (le_refl _))
