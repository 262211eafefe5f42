use mathlib.Core.Path.{refl, sym, ◌∙◌}
use native.Mathlib.Omega.{arith}
use Rattle.matrix.proofs.Filled.{filling_turn, filling_list}
use Rattle.encoding.proofs.ContractNumbers.{numbers-length, numbers-at}
use Rattle.encoding.proofs.read.read_numbers.Goals as goal

pub loop-k-preserved : goal.loop-k-preserved
loop-k-preserved c = filling_turn c.loop-k.invariant (omega arith) (omega arith) (c.read_contract_number.ensures ∙ sym (numbers-at _ _ (omega arith)))

pub returns : goal.returns
returns c = filling_list 0 _ _ _ _ (omega arith) refl _ c.loop-k.invariant (omega (arith, numbers-length c.args.b.now))
