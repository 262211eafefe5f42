use Rattle.encoding.specs.Bytes.{doubles}
use Rattle.byte_solve.proofs.LowerRead.{RowRead}
use Rattle.byte_solve.proofs.read_row.Given as goal

abbrev pub invariant-loop-j : goal.invariant-loop-j
invariant-loop-j l = RowRead l.n l.i l.j (doubles l.l) l.initial.a l.a
