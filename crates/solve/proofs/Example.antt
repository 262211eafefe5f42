-- The solve calls by hand, by computation of the definitions.
use mathlib.Core.Path.{refl}
use lib.Ieee.{add, sub, mul, div, lt, eq, of_bits}
use Rattle.arithmetic.specs.First.{first_from}
use Rattle.solve.specs.Substitution.{solve}
use Rattle.solve.specs.Example.{AllSolve, cases}

pub examples : AllSolve cases
unfolding solve add sub mul div lt eq of_bits first_from
examples = (refl, (refl, (refl, (refl, (refl, (refl, (refl, (refl, (refl, (refl, (refl, tt)))))))))))
