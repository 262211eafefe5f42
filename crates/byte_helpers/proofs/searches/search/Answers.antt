use native.Mathlib.Omega.{arith}
use Rattle.matrix.specs.Search.{largest}
use Rattle.matrix.proofs.CheckLaws.{passed}
use Rattle.encoding.proofs.Doubles.{doubles-length}
use Rattle.byte_helpers.proofs.Accepted.{search_accepted}
use Rattle.byte_helpers.proofs.searches.search.Goals as goal

pub best_of-requires-clause-nonzero : goal.best_of-requires-clause-nonzero
best_of-requires-clause-nonzero c = omega (arith, doubles-length c.args.c.now, (search_accepted c.args.c.now (passed c.search_byte_checks.ensures c.in_ok-search_byte_checks.was)).0)

pub best_of-requires-clause-by_index : goal.best_of-requires-clause-by_index
best_of-requires-clause-by_index c = λ k h. (search_accepted _ (passed c.search_byte_checks.ensures c.in_ok-search_byte_checks.was)).1 k (omega (arith, doubles-length c.args.c.now))

pub returns : goal.returns
unfolding largest
returns c = rw (← c.search_byte_checks.ensures, c.in_ok-search_byte_checks.was, c.best_of.ensures)
