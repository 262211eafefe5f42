-- What the operands of an accepted call are, and what the call then answers.
use mathlib.Core.Path.{◌≡◌}
use mathlib.Core.List.{List}
use mathlib.Core.Bool.{Bool, true, false}
use Prim.Native.Nat.{ℕ, ◌*◌, ◌<◌}
use native.Mathlib.Omega.{arith}
use borrow.Author.Tests.{eqb-false}
use lib.Dec.{eqb}
use lib.ListN.{length}
use lib.Ieee.{Float}
use Rattle.arithmetic.specs.Outcome.{complete, ◌then◌}
use Rattle.arithmetic.proofs.OutcomeLaws.{refuse-complete}
use Rattle.arithmetic.specs.Outcome.{Outcome}
use Rattle.arithmetic.specs.declared.refusal.Refusal.TheVariants.{SizeOutOfRange}
use Rattle.matrix.specs.Matrix.{Square}
use Rattle.matrix.specs.Plain.{AllBelow}
use Rattle.matrix.specs.Checks.{check_size, check_some, check_buffer, check_indices, check_finite}
use Rattle.matrix.specs.Calls.{matrix_call, swap_checks, search_checks, permutation_checks, diagonal_checks}
use Rattle.matrix.proofs.CheckLaws.{Accepted, complete-accepted, not_complete, both_accepted, size_accepted, matrix-accepted, buffer_accepted, index_accepted, indices_accepted}

-- ---- what the operands are
pub swap-accepted : (n : ℕ) (mat : List Float) (idx1 idx2 : ℕ) → Accepted (swap_checks n (length mat) idx1 idx2) → Square n mat × ((idx1 < n) × (idx2 < n))
swap-accepted n mat idx1 idx2 h =
    let j = both_accepted _ _ h in
    let i = both_accepted _ _ j.0 in
    let m = both_accepted _ _ i.0 in
    (record { len = matrix-accepted n (length mat) m.1; small = (size_accepted n m.0).1 }, (index_accepted n 0 idx1 i.1, index_accepted n 1 idx2 j.1))

some-accepted : (c : List Float) → Accepted (check_some (length c)) → 0 < length c
some-accepted c h = omega (arith, eqb-false (length c) 0 (refuse-complete (eqb (length c) 0) SizeOutOfRange h.is))

pub search_accepted : (c : List Float) → Accepted (search_checks c) → 0 < length c
search_accepted c h = some-accepted c (both_accepted _ _ h).0

-- n rows of n in a buffer, and whatever else is checked
square-accepted : (n : ℕ) (mat : List Float) (rest : Outcome) → Accepted (check_size n then check_buffer (n * n) (length mat) then rest) → Square n mat × Accepted rest
square-accepted n mat rest h =
    let r = both_accepted _ _ h in
    let s = both_accepted _ _ r.0 in
    (record { len = buffer_accepted (n * n) (length mat) s.1; small = (size_accepted n s.0).1 }, r.1)

pub permutation-accepted : (idxs : List ℕ) (mat : List Float) → Accepted (permutation_checks idxs (length mat)) → Square (length idxs) mat × AllBelow (length idxs) idxs
permutation-accepted idxs mat h =
    let s = square-accepted (length idxs) mat (check_indices (length idxs) idxs) h in
    (s.0, indices_accepted (length idxs) idxs s.1)

pub diagonal-accepted : (arr mat : List Float) → Accepted (diagonal_checks arr (length mat)) → Square (length arr) mat
diagonal-accepted arr mat h = (square-accepted (length arr) mat (check_finite 1 arr) h).0

-- ---- what the call answers: its checks o are run, and their outcome r asked whether it is complete
module _ {o r : Outcome} {b : Bool} (runs : r ≡ o) (asks : b ≡ complete r) where
  -- a call that is lent one matrix has written it, or has left it as it was
  pub matrix-written : {A : Type 0} (new old mat : List A) → b ≡ true → mat ≡ new → record { outcome = r; mat = mat } ≡ matrix_call o new old
  matrix-written new old mat h e = rw ((complete-accepted runs asks h).is, runs, e)

  pub matrix-untouched : {A : Type 0} (new old : List A) → b ≡ false → record { outcome = r; mat = old } ≡ matrix_call o new old
  matrix-untouched new old h = rw (not_complete runs asks h, runs)
