-- What an accepted check of bytes says, and which doubles can be written.
use mathlib.Core.Path.{◌≡◌, subst}
use mathlib.Core.List.{List}
use mathlib.Core.Bool.{true, not}
use Prim.Native.Nat.{ℕ, ◌*◌, ◌/◌, ◌%◌, ◌<◌}
use native.Mathlib.Nat.{div-add-mod', div-lt_iff_lt-mul, mod-lt}
use native.Mathlib.Omega.{arith}
use borrow.Author.Tests.{not-false, eqb-true}
use lib.ListN.{length, get_or}
use lib.Dec.{eqb}
use lib.Ieee.{Float, nan}
use lib.Ieee.Scale.{finite}
use Rattle.arithmetic.proofs.OutcomeLaws.{refuse-complete}
use Rattle.arithmetic.specs.declared.refusal.Refusal.TheVariants.{MatrixLength}
use Rattle.matrix.specs.Matrix.{at}
use Rattle.matrix.specs.Checks.{check_finite}
use Rattle.matrix.proofs.CheckLaws.{Accepted, finite_accepted}
use Rattle.encoding.specs.Bytes.{doubles}
use Rattle.encoding.specs.Writing.{EachFinite}
use Rattle.encoding.specs.Checks.{check_whole, check_entries}
use Rattle.encoding.proofs.Doubles.{doubles-length}

pub whole-accepted : (len : ℕ) → Accepted (check_whole len) → len % 8 ≡ 0
whole-accepted len h = eqb-true (len % 8) 0 (not-false (eqb (len % 8) 0) (refuse-complete (not (eqb (len % 8) 0)) MatrixLength h.is))

pub entries-length : (n len : ℕ) → Accepted (check_entries n len) → len ≡ 8 * (n * n)
entries-length n len h = eqb-true len (8 * (n * n)) (not-false (eqb len (8 * (n * n))) (refuse-complete (not (eqb len (8 * (n * n)))) MatrixLength h.is))

pub each_finite : (n : ℕ) (b : List ℕ) → Accepted (check_finite n (doubles b)) → (k : ℕ) → k < length b / 8 → finite (get_or (doubles b) k nan) ≡ true
each_finite n b h k q = finite_accepted n (doubles b) h k (omega (arith, doubles-length b))

-- ---- n rows of n finite entries
pub each_entry : (n : ℕ) (l : List Float) → 0 < n → length l ≡ n * n → ((i j : ℕ) → i < n → j < n → finite (at n l i j) ≡ true) → EachFinite l
each_entry n l np e h k q =
    let lt : k < n * n = omega arith in
    subst (λ (x : ℕ). finite (get_or l x nan) ≡ true) (div-add-mod' k n) (h (k / n) (k % n) ((div-lt_iff_lt-mul np).1 lt) (mod-lt k np))
