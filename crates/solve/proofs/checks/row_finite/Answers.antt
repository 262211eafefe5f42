use Rattle.solve.proofs.LowerRow.{lower-row_finite}
use Rattle.solve.proofs.checks.row_finite.Goals as goal

pub returns : goal.returns
returns c = lower-row_finite c.requires.square c.requires.i_lt_n c.lower_row.ensures c.list_finite.ensures
