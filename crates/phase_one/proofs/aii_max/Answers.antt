use mathlib.Core.Path.{refl}
use borrow.Author.Rules.{rules}
use borrow.Author.Tests.{tests}
use Rattle.std.proofs.lemmas.Iterator.{YieldsList-from_range, YieldsList-from_map}
use Rattle.std.proofs.lemmas.Iterator.Consumers.{fold_from_yields_List}
use Rattle.matrix.specs.Matrix.{at}
use Rattle.phase_one.proofs.Folds.{larger, aii_max-is}
use Rattle.phase_one.proofs.aii_max.Goals as goal

pub returns : goal.returns
returns c =
    let a = c.args in
    let m = c.map.ensures in
    aii_max-is a.n a.j a.l.now (search rules) (fold_from_yields_List _ larger _ _ c.fold.ensures.ran (YieldsList-from_map _ (λ i. at a.n a.l.now i i) (YieldsList-from_range _ _ _ m.source refl) m.closure (λ x r q k. search rules)) (λ acc x r q h. search (rules, tests)))
