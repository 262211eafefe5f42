use mathlib.Core.Path.{refl}
use native.Mathlib.Omega.{arith}
use borrow.Author.Rules.{rules}
use Rattle.std.proofs.lemmas.Iterator.{YieldsList-from_range}
use Rattle.std.proofs.lemmas.Iterator.Consumers.{fold_from_yields_List}
use Rattle.methods.specs.Se.{fold_next}
use Rattle.phase_one.proofs.Folds.{tmp_of-is}
use Rattle.phase_one.proofs.tmp_of.Goals as goal

pub returns : goal.returns
returns c = let a = c.args in tmp_of-is _ _ _ (omega arith) (fold_from_yields_List _ (λ acc i. fold_next a.n a.j a.l.now i acc) _ _ c.fold.ensures.ran (YieldsList-from_range _ _ _ refl refl) (λ acc i r q h. search rules))
