use Rattle.encoding.specs.Bytes.{doubles}
use Rattle.byte_solve.proofs.LowerRead.{RowsRead}
use Rattle.byte_solve.proofs.read_lower.Given as goal

abbrev pub invariant-loop-i : goal.invariant-loop-i
invariant-loop-i l = RowsRead l.n l.i (doubles l.l) l.initial.a l.a
