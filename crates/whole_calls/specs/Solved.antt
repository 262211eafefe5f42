-- Load order of two factorization calls with the solve calls that follow, on doubles and on bytes: what the first call of each hands back is
-- solved with, the right side moving with its contracts. Without contract numbers where no step is tied and no second phase begins; with them
-- tied or not, and in GMW81 with no condition. Proved in proofs/Solved.antt as `solved_calls`, `numbered_solved_calls`,
-- `solved_byte_calls` and `numbered_solved_byte_calls`.
use Rattle.std.specs.Prelude.{◌≡◌, List, ℕ, ◌*◌, ◌≤◌, length, Float, Ok, None}
use Rattle.arithmetic.specs.DoubleList.{AllDoubles}
use Rattle.matrix.specs.Checks.{Distinct}
use Rattle.matrix.specs.Plain.{AllBelow}
use Rattle.methods.specs.AcceptedMatrix.{AcceptedMatrix}
use Rattle.methods.specs.Calls.{Call, method_of}
use Rattle.methods.specs.Reloading.{LoadOrder, reload}
use Rattle.methods.specs.declared.decomposition.Decomposition.{Decomposition}
use Rattle.solve.specs.Substitution.{SolveCall, solve_call_of, solve_checks, solve_call}
use Rattle.load_order.specs.Calls.{LentBuffers, Fitting, called, called_numbered, handed_back}
use Rattle.load_order.specs.Numbered.{reload_numbers, OnePhase}
use Rattle.load_order.specs.Solve.{reload_right, SolvedAlike}
use Rattle.encoding.specs.Bytes.{doubles, double_bytes}
use Rattle.byte_factor.specs.Factor.{BytesCall}
use Rattle.byte_solve.specs.Solve.{SolveBytesCall, solve_byte_checks, solve_bytes_call}
use Rattle.whole_calls.specs.ByteCalls.{LentBytes, FittingBytes, called_bytes, called_numbered_bytes, read_bytes}

-- a complete call without a tied step and without a second phase
pub record Untied (d : Decomposition) : Type 0 where
  pub outcome : d.outcome ≡ Ok tt
  pub tied : d.tied ≡ None
  pub phase2 : d.phase2 ≡ None

-- ---- on doubles: b is the right side, y and y' are what the two solve calls are lent
abbrev pub CallsSolvedAlike : ℕ → List ℕ → Call → Call → List Float → List Float → List Float → Type 0
CallsSolvedAlike n s c c' b y y' =
    SolvedAlike n s (solve_checks n c.l (length y) c.p b) (solve_call n c.l c.p b y) (solve_call n c'.l c'.p (reload_right n s b) y')

abbrev pub SolvedCallsTheorem : Type 0
SolvedCallsTheorem =
    (method n : ℕ) (a : List Float) (s : List ℕ) (lent lent' : LentBuffers) (b y y' : List Float)
    → 1 ≤ method → method ≤ 3 → 1 ≤ n → n ≤ 48 → AcceptedMatrix n a → LoadOrder n s → Fitting n lent → Fitting n lent'
    → length b ≡ n → length y ≡ n → length y' ≡ n
    → Untied (called method n a lent).decomposition
    → CallsSolvedAlike n s (called method n a lent) (called method n (reload n s a) lent') b y y'

abbrev pub NumberedSolvedCallsTheorem : Type 0
NumberedSolvedCallsTheorem =
    (method n : ℕ) (a : List Float) (numbers s : List ℕ) (lent lent' : LentBuffers) (b y y' : List Float)
    → 1 ≤ method → method ≤ 3 → 1 ≤ n → n ≤ 48 → AcceptedMatrix n a → length numbers ≡ n → Distinct numbers → LoadOrder n s → Fitting n lent → Fitting n lent'
    → length b ≡ n → length y ≡ n → length y' ≡ n
    → (called_numbered method n a numbers lent).decomposition.outcome ≡ Ok tt → OnePhase (method_of method) (handed_back (called_numbered method n a numbers lent))
    → CallsSolvedAlike n s (called_numbered method n a numbers lent) (called_numbered method n (reload n s a) (reload_numbers n s numbers) lent') b y y'

-- ---- on bytes: L and p go from call to call as bytes, and y is read as doubles
abbrev pub read_solved : SolveBytesCall → SolveCall
read_solved c = solve_call_of c.outcome (doubles c.y)

abbrev pub ByteCallsSolvedAlike : ℕ → List ℕ → BytesCall → BytesCall → List Float → List ℕ → List ℕ → Type 0
ByteCallsSolvedAlike n s c c' b y y' =
    SolvedAlike n s (solve_byte_checks n c.l (length y) c.p (double_bytes b)) (read_solved (solve_bytes_call n c.l c.p (double_bytes b) y))
    (read_solved (solve_bytes_call n c'.l c'.p (double_bytes (reload_right n s b)) y'))

abbrev pub SolvedByteCallsTheorem : Type 0
SolvedByteCallsTheorem =
    (method n : ℕ) (a : List Float) (s : List ℕ) (lent lent' : LentBytes) (b : List Float) (y y' : List ℕ)
    → 1 ≤ method → method ≤ 3 → 1 ≤ n → n ≤ 48 → AcceptedMatrix n a → LoadOrder n s → FittingBytes n lent → FittingBytes n lent'
    → length b ≡ n → AllDoubles b → length y ≡ 8 * n → length y' ≡ 8 * n
    → Untied (called_bytes method n a lent).decomposition
    → ByteCallsSolvedAlike n s (called_bytes method n a lent) (called_bytes method n (reload n s a) lent') b y y'

abbrev pub NumberedSolvedByteCallsTheorem : Type 0
NumberedSolvedByteCallsTheorem =
    (method n : ℕ) (a : List Float) (numbers s : List ℕ) (lent lent' : LentBytes) (b : List Float) (y y' : List ℕ)
    → 1 ≤ method → method ≤ 3 → 1 ≤ n → n ≤ 48 → AcceptedMatrix n a → length numbers ≡ n → AllBelow 0x1_0000_0000 numbers → Distinct numbers → LoadOrder n s
    → FittingBytes n lent → FittingBytes n lent' → length b ≡ n → AllDoubles b → length y ≡ 8 * n → length y' ≡ 8 * n
    → (called_numbered_bytes method n numbers a lent).decomposition.outcome ≡ Ok tt
    → OnePhase (method_of method) (read_bytes (called_numbered_bytes method n numbers a lent))
    → ByteCallsSolvedAlike n s (called_numbered_bytes method n numbers a lent) (called_numbered_bytes method n (reload_numbers n s numbers) (reload n s a) lent') b y y'
