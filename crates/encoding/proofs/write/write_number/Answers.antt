use borrow.Author.Rules.{rules}
use mathlib.Core.Path.{◌≡◌, refl, ap, ◌∙◌}
use native.Mathlib.Omega.{arith}
use lib.ListN.{length-set}
use Rattle.encoding.specs.Bytes.{bytes}
use Rattle.encoding.specs.Writing.{over}
use Rattle.encoding.proofs.Numbers.{eight-written}
use Rattle.encoding.proofs.WriteLaws.{order-turn, order-end}
use Rattle.encoding.proofs.write.write_number.Goals as goal

pub loop-k-preserved : goal.loop-k-preserved
loop-k-preserved c = (simp length-set c.loop-k.invariant.0, order-turn _ _ _ _ _ _ (search rules) (search rules) refl c.loop-k.invariant.1)

pub returns : goal.returns
returns c =
    let w : c.to_le_bytes-eight.result ≡ bytes 8 c.args.v = c.to_le_bytes-eight.ensures ∙ eight-written c.args.v in
    (order-end _ _ _ _ _ (omega arith) c.loop-k.invariant.1 ∙ ap (over c.args.out.now c.args.at) w, refl)
