use mathlib.Core.Path.{refl}
use mathlib.Core.List.{[]}
use native.Mathlib.Omega.{arith}
use Rattle.answer_record.specs.Writing.{result_with}
use Rattle.answer_record.proofs.WriteFields.{refused-written}
use Rattle.answer_record.proofs.write.write_refusal.Goals as goal

pub returns : goal.returns
returns c =
    refused-written _ _ _ _ _ (result_with c.args.d [] [] []) c.write_marks-next.ensures _ (rw (c.from.ensures, c.unwrap_err.ensures) refl) c.write_place.ensures c.requires.out_len.1 (omega arith)
