use Rattle.arithmetic.specs.Double.{◌⊖◌}
use Rattle.arithmetic.proofs.Counting.{Counting}
use Rattle.matrix.specs.Matrix.{at, put}
use Rattle.methods.specs.Gmw81.{dot}
use Rattle.gmw81_steps.proofs.column.Given as goal

abbrev pub invariant-loop-i : goal.invariant-loop-i
invariant-loop-i l = Counting l.j l.n l.i (λ k m. put l.n m k l.j (at l.n l.l k l.j ⊖ dot l.n l.j l.l m k)) l.initial.c l.c
