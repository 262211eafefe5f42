use mathlib.Core.Path.{sym, ◌∙◌}
use native.Mathlib.Omega.{arith}
use Rattle.encoding.proofs.Doubles.{doubles-length}
use Rattle.byte_solve.proofs.LowerRead.{rows-turn}
use Rattle.byte_solve.proofs.read_lower.Goals as goal

pub loop-i-preserved : goal.loop-i-preserved
loop-i-preserved c =
    let r = c.read_row.ensures in
    rows-turn _ _ _ _ _ _ c.loop-i.invariant c.loop-i-test.true r.same r.row r.before

pub returns : goal.returns
returns c =
    let R = c.loop-i.invariant in
    record { len = R.len ∙ c.requires.square.len ∙ sym (doubles-length c.args.l.now ∙ omega (arith, c.requires.l_len)); entries = λ i j p q. R.rows i j (omega (arith, c.loop-i-test.false)) q }
