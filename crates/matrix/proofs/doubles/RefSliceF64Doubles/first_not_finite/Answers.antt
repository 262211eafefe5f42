use borrow.Author.Rules.{rules}
use borrow.Author.Tests.{tests, eqb-true}
use mathlib.Core.Path.{◌≡◌, refl, sym, ap, ◌∙◌}
use mathlib.Core.Bool.{true, not}
use lib.Ieee.{Float, nan}
use lib.Ieee.Scale.{finite}
use lib.Dec.{eqb}
use lib.ListN.{length, get_or}
use Rattle.std.specs.Option.{unwrap_or}
use Rattle.std.proofs.lemmas.Iterator.{YieldsList-from_slice}
use Rattle.std.proofs.lemmas.Iterator.Search.{position_from_yields_List}
use Rattle.arithmetic.specs.First.{first}
use Rattle.arithmetic.proofs.Chains.{first_position}
use Rattle.matrix.specs.Checks.{not_finite, first_not_finite}
use Rattle.matrix.proofs.CheckLaws.{end-is_first_bad}
use Rattle.matrix.proofs.doubles.RefSliceF64Doubles.first_not_finite.Goals as goal

pub returns-then-all_finite : goal.returns-then-all_finite
returns-then-all_finite c =
    let l = c.args.self.now in
    let e : eqb (first_not_finite l) (length l) ≡ true = end-is_first_bad (not_finite l) (length l) (λ i. finite (get_or l i nan)) (λ i. refl) ∙ sym c.all_finite.ensures ∙ c.if-all_finite.true in
    c.count-count.ensures ∙ sym (eqb-true (first_not_finite l) (length l) e)

pub returns : goal.returns
returns c =
    let l = c.args.self.now in
    let n = c.count-count.result in
    let bad = λ (x : Float). not (finite x) in
    let e = position_from_yields_List bad _ _ c.position.result c.position.ensures.ran (YieldsList-from_slice l cc) (λ x b q k. search (rules, tests)) in
    c.unwrap_or.ensures ∙ ap (λ (o : _). unwrap_or o n) e ∙ first_position bad l nan n (sym c.count-count.ensures) ∙ ap (first (not_finite l)) c.count-count.ensures
