use mathlib.Core.Path.{◌≡◌}
use lib.Ieee.{nan}
use lib.ListN.{get_or, length, set}
use Rattle.arithmetic.proofs.Counting.{Counting}
use Rattle.solve.proofs.substitution.put_back.Given as goal

abbrev pub invariant-loop-t : goal.invariant-loop-t
invariant-loop-t l = Counting 0 l.n l.t (λ i v. set v (get_or l.p i 0) (get_or l.w i nan)) l.initial.y l.y × (length l.y ≡ length l.initial.y)
