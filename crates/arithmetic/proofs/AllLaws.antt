-- A test of each position passes where each of them passes.
use mathlib.Core.Path.{◌≡◌, refl, sym, ◌∙◌}
use mathlib.Core.Bool.{Bool, true, false, not, ◌&&◌}
use Prim.Native.Nat.{ℕ, ◌≤◌, ◌<◌}
use native.Mathlib.Decide.{ℕ_discrete}
use native.Mathlib.Omega.{arith}
use borrow.Author.Tests.{not-true, not-false}
use Rattle.arithmetic.specs.Loop.{range}
use Rattle.arithmetic.proofs.LoopLaws.{range-ind, loop_end}
use Rattle.arithmetic.proofs.OrderLaws.{and_1, and_2}
use Rattle.arithmetic.specs.All.{all}

-- a turn of a loop that tests them, and its end
abbrev pub and_test : (ℕ → Bool) → ℕ → Bool → Bool
and_test test i ok = ok && test i

-- .. where the code tests `if !b`
pub and_fails : (ok b t : Bool) → b ≡ t → not b ≡ true → false ≡ (ok && t)
and_fails true b t e h = sym (not-true b h) ∙ e
and_fails false b t e h = refl

pub and_passes : (ok b t : Bool) → b ≡ t → not b ≡ false → ok ≡ (ok && t)
and_passes true b t e h = sym (not-false b h) ∙ e
and_passes false b t e h = refl

pub all_end : (a i n : ℕ) (test : ℕ → Bool) (ok : Bool) → i ≤ n → n ≤ i → ok ≡ range a i (and_test test) true → ok ≡ all a n test
unfolding all
all_end a i n test ok h k e = loop_end a i n (and_test test) true ok h k e

pub all-each : (a b : ℕ) (test : ℕ → Bool) → a ≤ b → all a b test ≡ true → (i : ℕ) → a ≤ i → i < b → test i ≡ true
unfolding all
all-each a b test h = range-ind (λ t c. c ≡ true → (i : ℕ) → a ≤ i → i < t → test i ≡ true) a b (λ i c. c && test i) true h (λ e i p q. absurd (omega arith))
    (λ t p q c K e i u v. elim (ℕ_discrete i t) [ yes d ↦ rw d (and_2 c (test t) e) | no d ↦ K (and_1 c (test t) e) i u (omega arith) ])

pub all_true : (a b : ℕ) (test : ℕ → Bool) → a ≤ b → ((i : ℕ) → a ≤ i → i < b → test i ≡ true) → all a b test ≡ true
unfolding all
all_true a b test h k = range-ind (λ t c. c ≡ true) a b (λ i c. c && test i) true h refl (λ t p q c e. rw (e, k t p q))
