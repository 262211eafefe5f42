use borrow.Author.Rules.{rules}
use borrow.Author.Tests.{tests}
use mathlib.Core.Path.{◌≡◌, sym, ap, ◌∙◌}
use mathlib.Core.Bool.{Bool}
use Prim.Native.Nat.{ℕ}
use lib.Dec.{leb}
use Rattle.std.specs.List.{position}
use Rattle.std.proofs.lemmas.Iterator.{YieldsList-from_slice}
use Rattle.std.proofs.lemmas.Iterator.Search.{position_from_yields_List}
use Rattle.arithmetic.specs.declared.refusal.Refusal.TheVariants.{IndexOutOfRange}
use Rattle.matrix.proofs.CheckLaws.{refused_at, first_refused}
use Rattle.matrix.proofs.checks.check_indices.Goals as goal

pub returns-in-Some : goal.returns-in-Some
returns-in-Some c =
    let xs = c.args.idxs.now in
    let bad : ℕ → Bool = λ x. leb c.args.n x in
    let found : c.position.result ≡ position bad xs = position_from_yields_List bad _ _ c.position.result c.position.ensures.ran (YieldsList-from_slice xs cc) (λ x b q k. search (rules, tests)) in
    ap (refused_at IndexOutOfRange) (sym c.in-Some.is ∙ found) ∙ first_refused bad xs 0 IndexOutOfRange

pub returns-in-None : goal.returns-in-None
returns-in-None c =
    let xs = c.args.idxs.now in
    let bad : ℕ → Bool = λ x. leb c.args.n x in
    let found : c.position.result ≡ position bad xs = position_from_yields_List bad _ _ c.position.result c.position.ensures.ran (YieldsList-from_slice xs cc) (λ x b q k. search (rules, tests)) in
    ap (refused_at IndexOutOfRange) (sym c.in-None.is ∙ found) ∙ first_refused bad xs 0 IndexOutOfRange
