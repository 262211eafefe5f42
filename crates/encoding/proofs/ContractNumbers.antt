-- Contract numbers read from bytes, and what their accepted checks say.
use mathlib.Core.Path.{◌≡◌, refl}
use mathlib.Core.List.{List, [], ◌∷◌}
use mathlib.Core.Bool.{not}
use Prim.Native.Nat.{ℕ, suc, ◌+◌, ◌*◌, ◌/◌, ◌≤◌, ◌<◌}
use native.Mathlib.Omega.{arith}
use borrow.Author.Tests.{not-false, eqb-true}
use lib.ListN.{length, get_or, take, drop}
use lib.Dec.{eqb}
use Rattle.arithmetic.proofs.OutcomeLaws.{refuse-complete}
use Rattle.arithmetic.specs.declared.refusal.Refusal.TheVariants.{NumbersLength}
use Rattle.matrix.specs.Checks.{check_distinct, Distinct}
use Rattle.matrix.proofs.TableLaws.{length-table, get_or-table}
use Rattle.matrix.proofs.CheckLaws.{Accepted, both_accepted, distinct-accepted}
use Rattle.encoding.specs.Bytes.{low_first, numbers}
use Rattle.encoding.specs.Checks.{check_number_bytes, number_byte_checks}
use Rattle.encoding.proofs.Numbers.{take_more}

pub numbers-length : (b : List ℕ) → length (numbers b) ≡ length b / 4
unfolding numbers
numbers-length b = length-table (length b / 4) (λ k. low_first (take 4 (drop (4 * k) b)))

pub numbers-at : (b : List ℕ) (k : ℕ) → k < length b / 4 → get_or (numbers b) k 0 ≡ low_first (take 4 (drop (4 * k) b))
unfolding numbers
numbers-at b k h = get_or-table (length b / 4) (λ i. low_first (take 4 (drop (4 * i) b))) k 0 h

-- no bytes, no numbers
pub numbers-none : numbers [] ≡ []
unfolding numbers
numbers-none = refl

-- four bytes, one by one
pub four_bytes : (b : List ℕ) (at : ℕ) → at + 4 ≤ length b → take 4 (drop at b) ≡ get_or b at 0 ∷ get_or b (at + 1) 0 ∷ get_or b (at + 2) 0 ∷ get_or b (at + 3) 0 ∷ []
four_bytes b at h =
    let e : suc at ≡ at + 1 = omega arith in
    let f : suc (at + 1) ≡ at + 2 = omega arith in
    let g : suc (at + 2) ≡ at + 3 = omega arith in
    rw (take_more b 3 at (omega arith), e, take_more b 2 (at + 1) (omega arith), f, take_more b 1 (at + 2) (omega arith), g, take_more b 0 (at + 3) (omega arith))

-- ---- the numbers at i and k, read
module _ (b : List ℕ) (i k : ℕ) (p : i < length b / 4) (q : k < length b / 4) where
  pub numbers-same : (x y : ℕ) → x ≡ low_first (take 4 (drop (4 * i) b)) → y ≡ low_first (take 4 (drop (4 * k) b)) → eqb (get_or (numbers b) i 0) (get_or (numbers b) k 0) ≡ eqb x y
  numbers-same x y e f = rw (numbers-at b i p, numbers-at b k q, e, f)

-- ---- what accepted checks say
pub number-bytes_accepted : (n len : ℕ) → Accepted (check_number_bytes n len) → len ≡ 4 * n
number-bytes_accepted n len h = eqb-true len (4 * n) (not-false (eqb len (4 * n)) (refuse-complete (not (eqb len (4 * n))) NumbersLength h.is))

-- n numbers, no two equal
pub number-checks-accepted : (n : ℕ) (b : List ℕ) → Accepted (number_byte_checks n b) → (length b ≡ 4 * n) × (length (numbers b) ≡ n) × Distinct (numbers b)
number-checks-accepted n b h =
    let t = both_accepted (check_number_bytes n (length b)) (check_distinct (numbers b)) h in
    let l : length b ≡ 4 * n = number-bytes_accepted n (length b) t.0 in
    (l, omega (arith, numbers-length b), distinct-accepted (numbers b) t.1)
