use Rattle.solve.proofs.LowerRow.{first-in_lower_row}
use Rattle.solve.proofs.checks.first_in_row.Goals as goal

pub returns : goal.returns
returns c = first-in_lower_row c.requires.square c.requires.i_lt_n c.lower_row.ensures c.first_not_finite.ensures
