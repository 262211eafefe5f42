-- The three methods, and today's tolerances.
use Rattle.std.specs.Prelude.{List, ℕ, Float}
use Rattle.std.specs.Float.{binary64}
use Rattle.std.specs.Float.Ieee.{of_bits}
use Rattle.methods.specs.Result.{Result}
use Rattle.methods.specs.Gmw81.{mod_cholesky_gmw81}
use Rattle.methods.specs.Se.{mod_cholesky_se}
use Rattle.methods.specs.declared.schnabel_eskow.Tolerances.{Tolerances}
use Rattle.methods.specs.declared.method.Method.{Method}
use Rattle.methods.specs.declared.method.Method.TheVariants.{Gmw81, Se}

-- numbers: the contracts' numbers, in the order in which they are loaded; an empty list where they have none
unfoldable pub factor : Method → Tolerances → List ℕ → ℕ → List Float → Result
unfolding mod_cholesky_gmw81 mod_cholesky_se
factor Gmw81 t numbers n a = mod_cholesky_gmw81 numbers n a
factor (Se v) t numbers n a = mod_cholesky_se v t numbers n a

-- tau is EPSILON.cbrt(): the double nearest the real cube root of 2^-52
abbrev pub tau : Float
tau = of_bits binary64 0x3ed9_65fe_a53d_6e3d

-- the double 0.1
abbrev pub mu : Float
mu = of_bits binary64 0x3fb9_9999_9999_999a

abbrev pub tolerances : Tolerances
tolerances = record { tau = tau; tau_bar = tau; mu = mu }
