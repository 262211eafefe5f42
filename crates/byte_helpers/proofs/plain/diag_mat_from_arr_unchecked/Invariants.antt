use mathlib.Core.Path.{◌≡◌}
use lib.ListN.{length}
use Rattle.matrix.specs.Plain.{put_diagonal}
use Rattle.encoding.specs.Bytes.{doubles}
use Rattle.byte_helpers.proofs.PlainBytes.{Put}
use Rattle.byte_helpers.proofs.plain.diag_mat_from_arr_unchecked.Given as goal

abbrev pub invariant-loop-i : goal.invariant-loop-i
invariant-loop-i l = Put l.n l.i (put_diagonal (doubles l.arr)) l.mat × (length l.mat ≡ length l.initial.mat)
