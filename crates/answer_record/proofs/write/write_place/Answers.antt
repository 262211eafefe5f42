use Rattle.answer_record.proofs.WriteFields.{place-written}
use Rattle.answer_record.proofs.write.write_place.Goals as goal

pub returns : goal.returns
returns c = place-written _ _ _ _ _ _ _ _ _ c.requires.at_in_bounds c.write_head-row.ensures c.write_byte-column.ensures c.write_byte.ensures
