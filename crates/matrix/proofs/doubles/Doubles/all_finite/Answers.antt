use mathlib.Core.Path.{refl}
use Rattle.matrix.proofs.CheckLaws.{end-is_first_bad}
use Rattle.matrix.proofs.doubles.Doubles.all_finite.Goals as goal

pub returns : goal.returns
returns g c = rw (c.first_not_finite.ensures, c.count.ensures) (end-is_first_bad _ _ _ (λ i. refl))
