-- The fourteen hand calculations, by computation of the definitions; and the cases outside the table.
use mathlib.Core.Path.{◌≡◌, refl}
use mathlib.Core.List.{[], ◌∷◌}
use lib.Ieee.{add, sub, mul, div, lt, eq, neg, is_nan, of_bits}
use Rattle.arithmetic.specs.First.{first_from}
use Rattle.std.specs.Prelude.{Ok, Err, Some}
use Rattle.arithmetic.specs.declared.refusal.Refusal.TheVariants.{SizeOutOfRange}
use Rattle.matrix.specs.Checks.{check_size}
use Rattle.matrix.specs.Search.{largest}
use Rattle.matrix.specs.Eigenvalues.{eigenvalues_of}
use Rattle.circles.specs.Circles.{set_each, first_overflow}
use Rattle.methods.specs.Factor.{factor, tolerances}
use Rattle.methods.specs.Progress.{one_if}
use Rattle.methods.specs.declared.method.Method.TheVariants.{Gmw81, Se}
use Rattle.methods.specs.declared.schnabel_eskow.Variant.TheVariants.{Se90, Se99}
use Rattle.hand.specs.Hand.{4·, minus, All, rows, pivots_at_or_below_zero, RootsCounted, OrdersOf}

pub hand_calculations : All rows
unfolding factor add sub mul div lt eq neg is_nan of_bits first_from largest set_each first_overflow eigenvalues_of one_if
hand_calculations = (refl, (refl, (refl, (refl, (refl, (refl, (refl, (refl, (refl, (refl, (refl, (refl, ((refl, refl), (refl, tt))))))))))))))

-- ---- outside the table
pub size_48 : check_size 48 ≡ Ok tt
size_48 = refl

pub size_49 : check_size 49 ≡ Err SizeOutOfRange
size_49 = refl

pub size_0 : check_size 0 ≡ Err SizeOutOfRange
size_0 = refl

pub se99-enters : (factor (Se Se99) tolerances [] 1 (minus 4· ∷ [])).decomposition.phase2 ≡ Some 0
unfolding factor add sub mul div lt eq neg is_nan of_bits
se99-enters = refl

-- ---- SE90's pivots at or below zero
pub pivots-at_or_below_zero : All pivots_at_or_below_zero
unfolding factor add sub mul div lt eq neg is_nan of_bits one_if
pivots-at_or_below_zero = (refl, (refl, (refl, (refl, (refl, (refl, tt))))))

-- ---- which roots count
pub roots_counted : RootsCounted
unfolding factor add sub mul div lt eq neg is_nan of_bits one_if
roots_counted = record { root_of_two = refl; root_of_minus_zero = refl; gmw81 = refl; not_in_beta = refl; se90 = refl; se99 = refl; one_row_left = refl; both_in_block = refl; first_in_block = refl; second_in_block = refl; not_in_eigenvalues = refl }

-- ---- a tie after a swap, without numbers and with
pub gmw81-orders : OrdersOf Gmw81
unfolding factor add sub mul div lt eq neg is_nan of_bits
gmw81-orders = (refl, refl)

pub se90-orders : OrdersOf (Se Se90)
unfolding factor add sub mul div lt eq neg is_nan of_bits
se90-orders = (refl, refl)

pub se99-orders : OrdersOf (Se Se99)
unfolding factor add sub mul div lt eq neg is_nan of_bits
se99-orders = (refl, refl)
