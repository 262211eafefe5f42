use lib.ListN.{length, get_or}
use Rattle.matrix.proofs.Filled.{Filling}
use Rattle.encoding.specs.Bytes.{numbers}
use Rattle.encoding.proofs.read.read_numbers.Given as goal

abbrev pub invariant-loop-k : goal.invariant-loop-k
invariant-loop-k l = Filling 0 (λ i. get_or (numbers l.b) i 0) 0 (length l.initial.out) l.k l.initial.out l.out
