use borrow.Author.Rules.{rules}
use borrow.Author.Tests.{lt-ltb, le-ltb}
use mathlib.Core.Bool.{Bool}
use mathlib.Core.List.{List}
use mathlib.Core.Path.{◌≡◌, refl, sym, ap, ◌∙◌}
use Prim.Native.Nat.{ℕ, ◌<◌, zero-le}
use native.Mathlib.Nat.{le_refl}
use lib.ListN.{set, length-set}
use lib.Ieee.{Float}
use Rattle.arithmetic.specs.First.{first}
use Rattle.arithmetic.specs.Loop.{range}
use Rattle.arithmetic.proofs.LoopLaws.{loop_start, loop_turn, loop_end}
use Rattle.std.specs.Prelude.{Ok, Err}
use Rattle.arithmetic.specs.declared.refusal.Refusal.TheVariants.{StoredNotFinite}
use Rattle.matrix.specs.Matrix.{zeros}
use Rattle.circles.specs.Circles.{overflows, centre, radius, radius_of, set_to, set_each, first_overflow, circles_call, gershgorin_circles}
use Rattle.circles.specs.declared.gershgorin.Sums.{Sums}
use Rattle.matrix.proofs.CheckLaws.{search_start, search_found, search_turn, search_end}
use Rattle.circles.proofs.gershgorin.gershgorin_circles_unchecked.Invariants.{overflowing}
use Rattle.circles.proofs.gershgorin.gershgorin_circles_unchecked.Goals as goal

first-overflow : (n : ℕ) (mat : List Float) → first_overflow n mat ≡ first (overflowing n mat) n
unfolding first_overflow
first-overflow n mat = refl

set_each-is : (value : ℕ → Float) (n : ℕ) (l : List Float) → set_each value n l ≡ range 0 n (set_to value) l
unfolding set_each
set_each-is value n l = refl

set_is : (value : ℕ → Float) (i : ℕ) (l : List Float) {v : Float} → v ≡ value i → set l i v ≡ set_to value i l
unfolding set_to
set_is value i l e = rw e

-- what the test of row i says of its sums
tested : {s t : Sums} {b v : Bool} → s ≡ t → b ≡ overflows s → b ≡ v → overflows t ≡ v
tested p q e = sym (q ∙ ap overflows p) ∙ e

refused : (n i : ℕ) (mat centres₀ radii₀ centres radii : List Float) → i < n → first (overflowing n mat) n ≡ i → centres ≡ zeros n → radii ≡ zeros n
    → circles_call (Err (StoredNotFinite i)) centres radii ≡ gershgorin_circles n mat centres₀ radii₀
refused n i mat centres₀ radii₀ centres radii h e p q = rw (first-overflow n mat, e, lt-ltb i n h, p, q)

finished : (n : ℕ) (mat centres₀ radii₀ centres radii : List Float) → first (overflowing n mat) n ≡ n
    → centres ≡ range 0 n (set_to (centre n mat)) centres₀ → radii ≡ range 0 n (set_to (radius n mat)) radii₀
    → circles_call (Ok tt) centres radii ≡ gershgorin_circles n mat centres₀ radii₀
finished n mat centres₀ radii₀ centres radii e p q = rw (first-overflow n mat, e, le-ltb n n (le_refl n), set_each-is, set_each-is, p, q)

pub loop-i-init : goal.loop-i-init
loop-i-init c = (search rules, refl, refl, search_start _ _, loop_start _ _ _, loop_start _ _ _)

pub returns-then-overflows : goal.returns-then-overflows
returns-then-overflows c =
    let b = c.before.before.before.before.before.before in
    let t = b.before.before.before.before.before in
    let l = t.loop-i in
    let p = t.requires.centres_len in
    let o = tested b.magnitude_sums-s.ensures b.overflows.ensures b.if-overflows.true in
    refused _ _ _ _ _ _ _ t.loop-i-test.true (l.invariant.3 ∙ search_found _ _ _ t.loop-i-test.true o)
    (b.clear.ensures ∙ ap zeros (l.invariant.1 ∙ p.0)) (c.clear-then-overflows.ensures ∙ ap zeros (l.invariant.2 ∙ p.1))

pub loop-i-preserved : goal.loop-i-preserved
loop-i-preserved c =
    let t = c.before.before.before.before.before in
    let l = t.loop-i in
    let m = c.magnitude_sums-s.ensures in
    let o = tested m c.overflows.ensures c.if-overflows.false in (
      search rules,
      simp length-set l.invariant.1,
      simp length-set l.invariant.2,
      l.invariant.3 ∙ search_turn _ _ _ t.loop-i-test.true o,
      loop_turn 0 _ _ _ _ _ zero-le l.invariant.4 (set_is _ _ _ c.get.ensures),
      loop_turn 0 _ _ _ _ _ zero-le l.invariant.5 (set_is _ _ _ (c.min.ensures ∙ ap radius_of m)),
    )

pub returns : goal.returns
returns c =
    let l = c.loop-i in
    finished _ _ _ _ _ _ (l.invariant.3 ∙ search_end _ _ _ l.invariant.0 c.loop-i-test.false)
    (loop_end 0 _ _ _ _ _ l.invariant.0 c.loop-i-test.false l.invariant.4)
    (loop_end 0 _ _ _ _ _ l.invariant.0 c.loop-i-test.false l.invariant.5)
