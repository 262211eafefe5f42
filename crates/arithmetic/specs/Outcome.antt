-- The number and place of each way a call can end: document 01, 'Refusals, in checking order'; 10 to 15 are document 02's, N1 to N3.
use Rattle.std.specs.Prelude.{ℕ, Bool, cond, Result, Ok, Err}
use Rattle.std.specs.Result.{is_ok}
use Rattle.arithmetic.specs.declared.refusal.Refusal.{Refusal}
use Rattle.arithmetic.specs.declared.refusal.Refusal.TheVariants.{MalformedRecord, UnknownMethod, SizeOutOfRange, MatrixLength, BufferLength, IndexOutOfRange, NotFinite, Unsymmetric, StoredNotFinite, FieldPastEnd, TagNotDue, NumbersLength, NumberRepeated, ListLength, ZeroDiagonal}
use Rattle.arithmetic.specs.declared.refusal.Place.{Place}

-- complete, or refused
abbrev pub Outcome : Type 0
Outcome = Result Unit Refusal

abbrev pub number_of : Refusal → ℕ
number_of MalformedRecord = 1
number_of UnknownMethod = 2
number_of SizeOutOfRange = 3
number_of MatrixLength = 4
number_of BufferLength = 5
number_of (IndexOutOfRange position) = 6
number_of (NotFinite row column) = 7
number_of (Unsymmetric row column) = 8
number_of (StoredNotFinite step) = 9
number_of (FieldPastEnd field) = 10
number_of (TagNotDue field) = 11
number_of NumbersLength = 12
number_of (NumberRepeated position) = 13
number_of ListLength = 14
number_of (ZeroDiagonal row) = 15

-- 0 for a complete call
abbrev pub number : Outcome → ℕ
number (Ok _) = 0
number (Err refusal) = number_of refusal

-- a position, row, step or field
abbrev pub alone : ℕ → Place
alone row = record { row = row; column = 0 }

-- where no place is named
abbrev pub nowhere : Place
nowhere = alone 0

abbrev pub place_of : Refusal → Place
place_of MalformedRecord = nowhere
place_of UnknownMethod = nowhere
place_of SizeOutOfRange = nowhere
place_of MatrixLength = nowhere
place_of BufferLength = nowhere
place_of (IndexOutOfRange position) = alone position
place_of (NotFinite row column) = record { row = row; column = column }
place_of (Unsymmetric row column) = record { row = row; column = column }
place_of (StoredNotFinite step) = alone step
place_of (FieldPastEnd field) = alone field
place_of (TagNotDue field) = alone field
place_of NumbersLength = nowhere
place_of (NumberRepeated position) = alone position
place_of ListLength = nowhere
place_of (ZeroDiagonal row) = alone row

abbrev pub place : Outcome → Place
place (Ok _) = nowhere
place (Err refusal) = place_of refusal

-- ---- checks: each is an outcome, and the first that fails decides
abbrev pub complete : Outcome → Bool
complete o = is_ok o

-- a check that refuses where `bad` holds
abbrev pub refuse : Bool → Refusal → Outcome
refuse bad refusal = cond bad (Err refusal) (Ok tt)

infixl 1 ◌then◌
abbrev pub ◌then◌ : Outcome → Outcome → Outcome
Ok _ then rest = rest
Err refusal then rest = Err refusal

-- ---- calls that hand back a value: the first refusal of the checks, or the value
abbrev pub answer : {A : Type 0} → Outcome → A → Result A Refusal
answer (Ok _) value = Ok value
answer (Err refusal) value = Err refusal

-- how such a call ended
abbrev pub ended : {A : Type 0} → Result A Refusal → Outcome
ended (Ok value) = Ok tt
ended (Err refusal) = Err refusal

-- the value, or this one beside a refusal
abbrev pub value_or : {A : Type 0} → A → Result A Refusal → A
value_or none (Ok value) = value
value_or none (Err refusal) = none
