use mathlib.Core.Path.{◌≡◌}
use lib.ListN.{length, get_or}
use lib.Ieee.{nan}
use Rattle.arithmetic.specs.Loop.{range}
use Rattle.arithmetic.specs.Sqrt.{sqrt}
use Rattle.matrix.proofs.Filled.{Filling}
use Rattle.methods.specs.Gmw81.{count_root}
use Rattle.gmw81_steps.proofs.roots.Given as goal

abbrev pub invariant-loop-x : goal.invariant-loop-x
invariant-loop-x l = Filling nan (λ x. sqrt (get_or l.initial.d x nan)) 0 (length l.initial.d) l.x-index l.initial.d l.d × (l.inexact ≡ range 0 l.x-index (count_root l.initial.d) 0)
