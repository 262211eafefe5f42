use Prim.Native.Nat.{◌+◌}
use Rattle.arithmetic.specs.Double.{◌⊖◌, ◌⊘◌, square}
use Rattle.arithmetic.proofs.Counting.{Counting}
use Rattle.matrix.specs.Matrix.{at, put}
use Rattle.gmw81_steps.proofs.update_diagonal.Given as goal

abbrev pub invariant-loop-i : goal.invariant-loop-i
invariant-loop-i l = Counting (l.j + 1) l.n l.i (λ k m. put l.n m k k (at l.n m k k ⊖ square (at l.n m k l.j) ⊘ l.dj)) l.initial.c l.c
