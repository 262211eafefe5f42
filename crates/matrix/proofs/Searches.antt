-- What the library's `position` finds in a range is the first position at which a test fails.
use mathlib.Core.Path.{◌≡◌, refl, ap, ◌∙◌}
use mathlib.Core.Bool.{Bool, true, false, not, cond}
use Prim.Native.Nat.{ℕ, zero, suc, ◌+◌, ◌<◌}
use native.Mathlib.Numerals.{add-one}
use native.Mathlib.Omega.{arith}
use borrow.Author.Tests.{ltb-false}
use lib.Dec.{ltb}
use Rattle.std.specs.List.{range_with_len, position_or_len, position}
use Rattle.std.specs.Option.{unwrap_or}
use Rattle.std.proofs.Common.{Option, Some, None}
use Rattle.std.proofs.lemmas.List.FromFn.{length-range_with_len}
use Rattle.arithmetic.specs.First.{first, first_from}
use Rattle.arithmetic.proofs.FirstLaws.{first-is, same_first}

counted : (bad : ℕ → Bool) (a k : ℕ) → a + position_or_len bad (range_with_len a k) ≡ first_from bad a k
unfolding first_from
counted bad a zero = omega arith
counted bad a (suc k) = go (bad a) (counted bad (suc a) k)
  where
    go : (b : Bool) → suc a + position_or_len bad (range_with_len (suc a) k) ≡ first_from bad (suc a) k
        → a + cond (not b) (1 + position_or_len bad (range_with_len (a + 1) k)) 0 ≡ cond b a (first_from bad (suc a) k)
    go true e = omega arith
    go false e = rw add-one (omega (arith, e))

-- .. of tests that say the same
pub range-search : (test bad : ℕ → Bool) (n : ℕ) {r : Option ℕ} → r ≡ position test (range_with_len 0 n) → ((i : ℕ) → i < n → test i ≡ bad i) → unwrap_or r n ≡ first bad n
range-search test bad n {r} e alike = ap (λ (o : Option ℕ). unwrap_or o n) e ∙ rw length-range_with_len (go (ltb k n) refl) ∙ same_first test bad n alike
  where
    k : ℕ
    k = position_or_len test (range_with_len 0 n)

    is : k ≡ first test n
    is = omega (arith, counted test 0 n)

    go : (t : Bool) → ltb k n ≡ t → unwrap_or (cond t (Some k) None) n ≡ first test n
    go true e = is
    go false e = omega (arith, is, ltb-false k n e, (first-is test n).most)
