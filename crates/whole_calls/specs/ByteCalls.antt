-- Load order of two whole calls on bytes, the first on a matrix, the second on its reloading: the checks pass both, and what they hand
-- back, read as doubles, is alike. Proved as `byte_calls` and, with contract numbers, as `numbered_byte_calls` in proofs/ByteCalls.antt.
use Rattle.std.specs.Prelude.{◌≡◌, true, List, ℕ, ◌*◌, ◌≤◌, length, Float, Ok}
use Rattle.arithmetic.specs.Outcome.{complete, Outcome}
use Rattle.matrix.specs.Checks.{Distinct}
use Rattle.matrix.specs.Matrix.{zeros}
use Rattle.matrix.specs.Plain.{AllBelow}
use Rattle.methods.specs.AcceptedMatrix.{AcceptedMatrix}
use Rattle.methods.specs.Calls.{method_of}
use Rattle.methods.specs.Reloading.{LoadOrder, reload}
use Rattle.methods.specs.Result.{Result}
use Rattle.load_order.specs.LoadOrder.{Alike}
use Rattle.load_order.specs.Numbered.{reload_numbers, NumberedAlike}
use Rattle.encoding.specs.Bytes.{doubles, double_bytes}
use Rattle.encoding.specs.Checks.{number_byte_checks}
use Rattle.byte_factor.specs.Factor.{BytesCall, factor_byte_checks, factor_bytes_call, factor_numbered_bytes_call}
use Rattle.whole_calls.specs.NumberBytes.{number_bytes}

-- what a call is lent to write to
pub record LentBytes : Type 0 where
  pub l : List ℕ
  pub work : List ℕ
  pub e : List ℕ
  pub p : List ℕ

-- .. of the lengths that n rows need
pub record FittingBytes (n : ℕ) (b : LentBytes) : Type 0 where
  pub l_is : length b.l ≡ 8 * (n * n)
  pub work_is : length b.work ≡ 8 * (n * n)
  pub e_is : length b.e ≡ 8 * n
  pub p_is : length b.p ≡ n

-- on the bytes of a's entries, and of contract numbers; `numbering` is what the number checks come to
abbrev pub checked_bytes : Outcome → ℕ → ℕ → List Float → LentBytes → Outcome
checked_bytes numbering method n a b = factor_byte_checks method n (double_bytes a) numbering (length b.l) (length b.work) (length b.e) (length b.p)

abbrev pub called_bytes : ℕ → ℕ → List Float → LentBytes → BytesCall
called_bytes method n a b = factor_bytes_call method n (double_bytes a) b.l b.work b.e b.p

abbrev pub called_numbered_bytes : ℕ → ℕ → List ℕ → List Float → LentBytes → BytesCall
called_numbered_bytes method n numbers a b = factor_numbered_bytes_call method n (double_bytes a) (number_bytes numbers) b.l b.work b.e b.p

-- a call passes its checks, and leaves its work buffer +0.0 throughout
pub record PassesBytes (numbering : Outcome) (method n : ℕ) (a : List Float) (b : LentBytes) (c : BytesCall) : Type 0 where
  pub checks : complete (checked_bytes numbering method n a b) ≡ true
  pub cleared : c.work ≡ double_bytes (zeros (n * n))

-- what a call hands back beside the work buffer
abbrev pub read_bytes : BytesCall → Result
read_bytes c = record { decomposition = c.decomposition; l = doubles c.l; e = doubles c.e; p = c.p }

-- ---- without contract numbers
pub record ByteCallsAlike (method n : ℕ) (s : List ℕ) (a a' : List Float) (b b' : LentBytes) : Type 0 where
  pub first : PassesBytes (Ok tt) method n a b (called_bytes method n a b)
  pub second : PassesBytes (Ok tt) method n a' b' (called_bytes method n a' b')
  pub alike : Alike n s (read_bytes (called_bytes method n a b)) (read_bytes (called_bytes method n a' b'))

abbrev pub ByteCallsTheorem : Type 0
ByteCallsTheorem =
    (method n : ℕ) (a : List Float) (s : List ℕ) (b b' : LentBytes)
    → 1 ≤ method → method ≤ 3 → 1 ≤ n → n ≤ 48 → AcceptedMatrix n a → LoadOrder n s → FittingBytes n b → FittingBytes n b'
    → ByteCallsAlike method n s a (reload n s a) b b'

-- ---- with contract numbers, which move with their contracts
pub record NumberedByteCallsAlike (method n : ℕ) (s : List ℕ) (numbers numbers' : List ℕ) (a a' : List Float) (b b' : LentBytes) : Type 0 where
  pub first : PassesBytes (number_byte_checks n (number_bytes numbers)) method n a b (called_numbered_bytes method n numbers a b)
  pub second : PassesBytes (number_byte_checks n (number_bytes numbers')) method n a' b' (called_numbered_bytes method n numbers' a' b')
  pub alike : NumberedAlike (method_of method) n s (read_bytes (called_numbered_bytes method n numbers a b)) (read_bytes (called_numbered_bytes method n numbers' a' b'))

abbrev pub NumberedByteCallsTheorem : Type 0
NumberedByteCallsTheorem =
    (method n : ℕ) (a : List Float) (numbers s : List ℕ) (b b' : LentBytes)
    → 1 ≤ method → method ≤ 3 → 1 ≤ n → n ≤ 48 → AcceptedMatrix n a → length numbers ≡ n → AllBelow 0x1_0000_0000 numbers → Distinct numbers → LoadOrder n s
    → FittingBytes n b → FittingBytes n b'
    → NumberedByteCallsAlike method n s numbers (reload_numbers n s numbers) a (reload n s a) b b'
