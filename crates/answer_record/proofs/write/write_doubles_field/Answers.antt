use Rattle.encoding.proofs.ByteLaws.{length-content}
use Rattle.answer_record.proofs.WriteFields.{field-written}
use native.Mathlib.Omega.{arith}
use Rattle.answer_record.proofs.write.write_doubles_field.Goals as goal

pub returns : goal.returns
returns c = field-written _ _ _ _ _ _ _ _ _ c.write_head-next.ensures c.write_doubles.ensures (length-content _) (omega arith)
