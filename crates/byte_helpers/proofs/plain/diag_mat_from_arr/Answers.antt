use Rattle.matrix.proofs.CheckLaws.{passed}
use Rattle.byte_helpers.proofs.Accepted.{diagonal-accepted}
use Rattle.byte_helpers.proofs.plain.diag_mat_from_arr.Goals as goal

pub diag_mat_from_arr_unchecked-requires-clause-by_index : goal.diag_mat_from_arr_unchecked-requires-clause-by_index
diag_mat_from_arr_unchecked-requires-clause-by_index c =
    (diagonal-accepted _ _ (passed c.diagonal_byte_checks.ensures c.in_ok-diagonal_byte_checks.was)).1
