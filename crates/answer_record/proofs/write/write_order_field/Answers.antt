use mathlib.Core.Path.{refl}
use Rattle.answer_record.proofs.WriteFields.{field-written}
use native.Mathlib.Omega.{arith}
use Rattle.answer_record.proofs.write.write_order_field.Goals as goal

pub returns : goal.returns
returns c = field-written _ _ _ _ _ _ _ _ _ c.write_head-next.ensures c.write_order.ensures refl (omega arith)
