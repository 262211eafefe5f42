use lib.ListN.{length, get_or}
use Rattle.matrix.proofs.Filled.{Filling}
use Rattle.encoding.proofs.read.read_order.Given as goal

abbrev pub invariant-loop-k : goal.invariant-loop-k
invariant-loop-k l = Filling 0 (λ i. get_or l.b i 0) 0 (length l.initial.p) l.k l.initial.p l.p
