use mathlib.Core.Path.{◌≡◌}
use lib.ListN.{length}
use Rattle.arithmetic.proofs.Counting.{Counting}
use Rattle.byte_helpers.proofs.SwappedBytes.{swap_bytes_in_rows}
use Rattle.byte_helpers.proofs.swaps.swap_rows_unchecked.Given as goal

abbrev pub invariant-loop-i : goal.invariant-loop-i
invariant-loop-i l = Counting 0 l.n l.i (swap_bytes_in_rows l.n l.idx1 l.idx2) l.initial.mat l.mat × (length l.mat ≡ length l.initial.mat)
