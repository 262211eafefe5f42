use Rattle.matrix.proofs.CheckLaws.{passed}
use Rattle.byte_helpers.proofs.Accepted.{permutation-accepted}
use Rattle.byte_helpers.proofs.plain.index_to_permutation_mat.Goals as goal

pub index_to_permutation_mat_unchecked-requires-clause-all_below : goal.index_to_permutation_mat_unchecked-requires-clause-all_below
index_to_permutation_mat_unchecked-requires-clause-all_below c =
    (permutation-accepted _ _ (passed c.permutation_byte_checks.ensures c.in_ok-permutation_byte_checks.was)).1
