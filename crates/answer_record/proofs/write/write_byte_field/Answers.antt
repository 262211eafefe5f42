use mathlib.Core.Path.{refl}
use Rattle.answer_record.proofs.WriteFields.{field-written}
use Rattle.answer_record.proofs.write.write_byte_field.Goals as goal

pub returns : goal.returns
returns c = field-written _ _ _ _ _ _ _ 1 _ c.write_head-next.ensures c.write_byte.ensures refl c.requires
