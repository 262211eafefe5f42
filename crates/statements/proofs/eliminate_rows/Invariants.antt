use Rattle.methods.specs.Elimination.{RowsEliminated}
use Rattle.statements.proofs.eliminate_rows.Given as goal

abbrev pub invariant-loop-i : goal.invariant-loop-i
invariant-loop-i l = RowsEliminated l.n l.j l.column l.initial.l l.i l.l l.ok
