use native.Mathlib.Omega.{arith}
use Rattle.encoding.proofs.Doubles.{pattern_is}
use Rattle.byte_solve.proofs.pattern.Goals as goal

pub returns : goal.returns
returns c =
    let k = c.cell in
    rw (← k.ensures.0) (pattern_is c.args.l.now k.result _ (omega (arith, k.ensures.1, c.requires.l_len.0)) c.read_number.ensures)
