use Rattle.answer_record.proofs.WriteFields.{marks-written}
use Rattle.answer_record.proofs.write.write_marks.Goals as goal

pub returns : goal.returns
returns c = marks-written _ _ _ _ _ _ _ _ _ _ _ c.requires.in_bounds c.number.ensures c.step_byte.ensures c.step_byte-2.ensures c.write_byte_field-next.ensures c.write_byte_field-last.ensures c.write_byte_field.ensures
