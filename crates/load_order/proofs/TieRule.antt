-- The tie rule, from the law of the search by number.
use mathlib.Core.Path.{◌≡◌, refl, ap, ap₂, ◌∙◌, subst}
use mathlib.Core.Bool.{Bool, false}
use mathlib.Core.List.{List}
use Prim.Native.Nat.{ℕ, ◌+◌, ◌-◌, ◌≤◌, ◌<◌}
use native.Mathlib.Omega.{arith}
use lib.ListN.{length, get_or, drop, length-drop}
use lib.Ieee.{Float, nan, lt, eq, is_nan}
use Rattle.matrix.specs.Search.{key, largest}
use Rattle.matrix.proofs.SearchLaws.{candidate, Numbers}
use Rattle.methods.specs.Statements.{number_at, smallest_number, pick}
use Rattle.load_order.specs.TieRule.{PivotByNumber, TieRuleTheorem, FirstInPositionTheorem}
use Rattle.load_order.proofs.Smallest.{key-number, dropped, top_of_equal, Smallest, smallest-is, pick-smallest}

module _ (numbers p : List ℕ) (magnitude : Bool) (values : List Float) (j : ℕ) (pj : j < length values) (nn : (i : ℕ) → j ≤ i → i < length values → is_nan (get_or values i nan) ≡ false) where
  abbrev number : ℕ → ℕ
  number i = number_at numbers p (j + i)

  abbrev f : ℕ → Float
  f i = candidate magnitude (drop j values) i

  abbrev k : ℕ
  k = length (drop j values)

  abbrev u : ℕ
  u = smallest_number number magnitude (drop j values) (largest magnitude (drop j values)).index

  left : k ≡ length values - j
  left = length-drop j values

  not_nan : Numbers f k
  not_nan i q = rw (dropped magnitude j values i) (key-number magnitude (get_or values (j + i) nan) (nn (j + i) (omega arith) (omega (arith, left))))

  S : Smallest f number k k u
  S = smallest-is number magnitude (drop j values) (omega (arith, left)) not_nan

  -- position i, counted from j
  from-j : (i : ℕ) → j ≤ i → j + (i - j) ≡ i
  from-j i h = omega arith

  at_i : (i : ℕ) → j ≤ i → f (i - j) ≡ key magnitude (get_or values i nan)
  at_i i h = dropped magnitude j values (i - j) ∙ ap (λ (x : ℕ). key magnitude (get_or values x nan)) (from-j i h)

  pivot : PivotByNumber numbers p magnitude values j (j + u)
  pivot = record {
    from = omega arith;
    to = omega (arith, left, S.is_top.below);
    largest = λ i h l. subst (λ (x : Float). lt x (key magnitude (get_or values i nan)) ≡ false) (dropped magnitude j values u)
        (subst (λ (x : Float). lt (f u) x ≡ false) (at_i i h) (S.is_top.top (i - j) (omega (arith, left))));
    smallest = λ i h l e. subst (λ (x : ℕ). number u ≤ number_at numbers p x) (from-j i h)
        (S.least (i - j) (omega (arith, left)) (top_of_equal f k not_nan u (i - j) S.is_top (omega (arith, left)) (ap₂ eq (dropped magnitude j values u) (at_i i h) ∙ e)));
  }

pub tie_rule : TieRuleTheorem
tie_rule numbers p magnitude values j some pj nn = rw (pick-smallest numbers p magnitude values j some) (pivot numbers p magnitude values j pj nn)

pub first-in_position : FirstInPositionTheorem
unfolding pick
first-in_position p magnitude values j = refl
