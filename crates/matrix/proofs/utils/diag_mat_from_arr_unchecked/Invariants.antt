use mathlib.Core.Path.{◌≡◌}
use lib.ListN.{length}
use Rattle.arithmetic.specs.Loop.{range}
use Rattle.matrix.specs.Plain.{put_diagonal}
use Rattle.matrix.proofs.utils.diag_mat_from_arr_unchecked.Given as goal

abbrev pub invariant-loop-i : goal.invariant-loop-i
invariant-loop-i l = (length l.mat ≡ length l.initial.mat) × (l.mat ≡ range 0 l.i (put_diagonal l.arr) l.initial.mat)
