use mathlib.Core.Path.{◌≡◌}
use lib.ListN.{length}
use Rattle.matrix.specs.Plain.{put_one}
use Rattle.byte_helpers.proofs.PlainBytes.{Put}
use Rattle.byte_helpers.proofs.plain.index_to_permutation_mat_unchecked.Given as goal

abbrev pub invariant-loop-i : goal.invariant-loop-i
invariant-loop-i l = Put l.n l.i (put_one l.idxs) l.mat × (length l.mat ≡ length l.initial.mat)
