use mathlib.Core.Path.{◌≡◌}
use lib.ListN.{length}
use lib.Ieee.{nan}
use Rattle.arithmetic.proofs.Counting.{Counting}
use Rattle.matrix.specs.Swap.{swap_in_columns}
use Rattle.matrix.proofs.utils.swap_columns_unchecked.Given as goal

abbrev pub invariant-loop-i : goal.invariant-loop-i
invariant-loop-i l = Counting 0 l.n l.i (swap_in_columns nan l.n l.idx1 l.idx2) l.initial.mat l.mat × (length l.mat ≡ length l.initial.mat)
