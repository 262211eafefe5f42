use borrow.Author.Rules.{rules}
use borrow.Author.Tests.{tests}
use mathlib.Core.Path.{◌≡◌, refl, ap, ◌∙◌}
use native.Mathlib.Nat.{sub-zero}
use Rattle.std.specs.List.{range_with_len, position}
use Rattle.std.proofs.lemmas.Iterator.{YieldsList-from_range}
use Rattle.std.proofs.lemmas.Iterator.Search.{position_from_yields_List}
use Rattle.arithmetic.specs.First.{first}
use Rattle.matrix.specs.Checks.{not_finite}
use Rattle.matrix.proofs.Searches.{range-search}
use Rattle.matrix.proofs.doubles.Doubles.first_not_finite.Goals as goal

pub returns : goal.returns
returns g c =
    let bad = not_finite (g.Self.Doubles.doubles c.args.self) in
    let n = c.count-count.result in
    let found : c.position.result ≡ position bad (range_with_len 0 n) = position_from_yields_List bad _ _ _ c.position.ensures.ran (YieldsList-from_range 0 n n refl (sub-zero n)) (λ x t q h. search (rules, tests)) in
    c.unwrap_or.ensures ∙ range-search bad bad n found (λ k h. refl) ∙ ap (first bad) c.count-count.ensures
