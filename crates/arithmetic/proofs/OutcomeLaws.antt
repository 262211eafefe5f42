-- What is complete passed each of its checks.
use mathlib.Core.Path.{◌≡◌, refl}
use mathlib.Core.Bool.{Bool, true, false, false≢true, true≢false}
use Prim.Native.Nat.{◌≤◌}
use native.Mathlib.Omega.{arith}
use Rattle.std.specs.Prelude.{Ok, Err}
use Rattle.arithmetic.specs.declared.refusal.Refusal.{Refusal}
use Rattle.arithmetic.specs.declared.refusal.Refusal.TheVariants.{MalformedRecord, UnknownMethod, SizeOutOfRange, MatrixLength, BufferLength, IndexOutOfRange, NotFinite, Unsymmetric, StoredNotFinite, FieldPastEnd, TagNotDue, NumbersLength, NumberRepeated, ListLength, ZeroDiagonal}
use Rattle.arithmetic.specs.Outcome.{Outcome, number_of, number, complete, refuse, ◌then◌}

pub complete-is : (o : Outcome) → complete o ≡ true → o ≡ Ok tt
complete-is (Ok tt) h = refl
complete-is (Err refusal) h = absurd (false≢true h)

-- what is complete passed each of its checks
pub then_complete : (o rest : Outcome) → complete (o then rest) ≡ true → (complete o ≡ true) × (complete rest ≡ true)
then_complete (Ok _) rest h = (refl, h)
then_complete (Err refusal) rest h = absurd (false≢true h)

-- a check that passes is of what isn't bad
pub refuse-complete : (bad : Bool) (refusal : Refusal) → complete (refuse bad refusal) ≡ true → bad ≡ false
refuse-complete true refusal h = absurd (false≢true h)
refuse-complete false refusal h = refl

-- no refusal has the number of a complete call
positive : (refusal : Refusal) → 1 ≤ number_of refusal
positive MalformedRecord = omega arith
positive UnknownMethod = omega arith
positive SizeOutOfRange = omega arith
positive MatrixLength = omega arith
positive BufferLength = omega arith
positive (IndexOutOfRange position) = omega arith
positive (NotFinite row column) = omega arith
positive (Unsymmetric row column) = omega arith
positive (StoredNotFinite step) = omega arith
positive (FieldPastEnd field) = omega arith
positive (TagNotDue field) = omega arith
positive NumbersLength = omega arith
positive (NumberRepeated position) = omega arith
positive ListLength = omega arith
positive (ZeroDiagonal row) = omega arith

pub refused-positive : (o : Outcome) → complete o ≡ false → 1 ≤ number o
refused-positive (Ok _) h = absurd (true≢false h)
refused-positive (Err refusal) h = positive refusal
