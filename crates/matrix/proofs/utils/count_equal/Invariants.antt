use mathlib.Core.Path.{◌≡◌}
use lib.ListN.{take}
use lib.Ieee.{eq}
use Rattle.std.specs.List.{count_by}
use Rattle.matrix.specs.Search.{key}
use Rattle.matrix.proofs.utils.count_equal.Given as goal

abbrev pub invariant-loop-y : goal.invariant-loop-y
invariant-loop-y l = l.count ≡ count_by (λ y. eq l.x (key l.magnitude y)) (take l.y-index l.c)
