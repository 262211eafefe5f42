use Rattle.matrix.proofs.CheckLaws.{passed}
use Rattle.byte_helpers.proofs.Accepted.{swap-accepted}
use Rattle.byte_helpers.proofs.swaps.swap_columns.Goals as goal

pub swap_columns_unchecked-requires : goal.swap_columns_unchecked-requires
swap_columns_unchecked-requires c = swap-accepted _ _ _ _ (passed c.swap_byte_checks.ensures c.in_ok-swap_byte_checks.was)
