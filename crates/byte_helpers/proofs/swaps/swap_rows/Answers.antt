use Rattle.matrix.proofs.CheckLaws.{passed}
use Rattle.byte_helpers.proofs.Accepted.{swap-accepted}
use Rattle.byte_helpers.proofs.swaps.swap_rows.Goals as goal

pub swap_rows_unchecked-requires : goal.swap_rows_unchecked-requires
swap_rows_unchecked-requires c = swap-accepted _ _ _ _ (passed c.swap_byte_checks.ensures c.in_ok-swap_byte_checks.was)
