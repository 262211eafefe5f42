use lib.ListN.{length, get_or}
use lib.Ieee.{nan}
use Rattle.matrix.proofs.Filled.{Filling}
use Rattle.encoding.specs.Bytes.{doubles}
use Rattle.encoding.proofs.read.read_doubles.Given as goal

abbrev pub invariant-loop-k : goal.invariant-loop-k
invariant-loop-k l = Filling nan (λ i. get_or (doubles l.b) i nan) 0 (length l.initial.a) l.k l.initial.a l.a
