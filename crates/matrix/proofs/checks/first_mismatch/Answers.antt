use borrow.Author.Rules.{rules}
use borrow.Author.Tests.{eq-eqb, ne_eqb}
use mathlib.Core.Bool.{true, false, not}
use mathlib.Core.Path.{◌≡◌, sym, ◌∙◌}
use lib.Ieee.{Float, binary64, to_bits}
use Rattle.arithmetic.proofs.OrderLaws.{finite_not_nan}
use Rattle.matrix.specs.Checks.{same_bits, first_mismatch}
use Rattle.matrix.proofs.CheckLaws.{search_found, search_turn, search_end}
use Rattle.matrix.proofs.checks.first_mismatch.Goals as goal

differ : {x y r s : Float} → r ≡ x → s ≡ y → (to_bits binary64 r ≡ to_bits binary64 s → ⊥) → not (same_bits x y) ≡ true
differ p q h = rw (← p, ← q, ne_eqb _ _ h)

agree : {x y r s : Float} → r ≡ x → s ≡ y → to_bits binary64 r ≡ to_bits binary64 s → not (same_bits x y) ≡ false
agree p q h = rw (← p, ← q, eq-eqb _ _ h)

pub float_to_bits-get : goal.float_to_bits-get
float_to_bits-get c = rw c.get.ensures (finite_not_nan _ (c.requires.all_finite _ _ (search rules) (search rules)))

pub float_to_bits-get-in-loop-j : goal.float_to_bits-get-in-loop-j
float_to_bits-get-in-loop-j c = rw c.get-in-loop-j.ensures (finite_not_nan _ (c.requires.all_finite _ _ (search rules) (search rules)))

pub returns-then-get : goal.returns-then-get
unfolding first_mismatch
returns-then-get c =
    let t = c.before.before.before in
    sym (t.loop-j.invariant ∙ search_found _ _ _ t.loop-j-test.true (differ c.get.ensures c.get-in-loop-j.ensures c.if-get.true))

pub loop-j-preserved : goal.loop-j-preserved
loop-j-preserved c =
    let t = c.before.before.before in
    (t.loop-j.invariant ∙ search_turn _ _ _ t.loop-j-test.true (agree c.get.ensures c.get-in-loop-j.ensures c.if-get.false))

pub returns : goal.returns
unfolding first_mismatch
returns c = let l = c.loop-j in sym (l.invariant ∙ search_end _ _ _ (search rules) c.loop-j-test.false)
