use mathlib.Core.Bool.{true, ◌&&◌}
use mathlib.Core.Path.{◌≡◌}
use lib.ListN.{take}
use lib.Ieee.Scale.{finite}
use Rattle.std.specs.List.{fold}
use Rattle.matrix.proofs.checks.list_finite.Given as goal

abbrev pub invariant-loop-x : goal.invariant-loop-x
invariant-loop-x l = l.ok ≡ fold (λ ok x. ok && finite x) true (take l.x-index l.x-items)
