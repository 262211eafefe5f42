-- Document 02's tie rule, of the search itself: with contract numbers the pivot is one of the largest, and of those it has the smallest
-- number; without them it is the first of equals in position. Proved as `tie_rule` and `first-in_position` in proofs/TieRule.antt.
use Rattle.std.specs.Prelude.{◌≡◌, Bool, true, false, List, [], ℕ, ◌+◌, ◌≤◌, ◌<◌, length, get_or, drop, Float}
use Rattle.std.specs.Float.{nan}
use Rattle.std.specs.Float.Ieee.{lt, eq, is_nan}
use Rattle.matrix.specs.Search.{key, largest}
use Rattle.methods.specs.Statements.{number_at, pick}

-- position k is the pivot of step j; p[t] is the contract at position t
pub record PivotByNumber (numbers p : List ℕ) (magnitude : Bool) (values : List Float) (j k : ℕ) : Type 0 where
  pub from : j ≤ k
  pub to : k < length values
  pub largest : (i : ℕ) → j ≤ i → i < length values → lt (key magnitude (get_or values k nan)) (key magnitude (get_or values i nan)) ≡ false
  pub smallest : (i : ℕ) → j ≤ i → i < length values → eq (key magnitude (get_or values k nan)) (key magnitude (get_or values i nan)) ≡ true → number_at numbers p k ≤ number_at numbers p i

abbrev pub TieRuleTheorem : Type 0
TieRuleTheorem =
    (numbers p : List ℕ) (magnitude : Bool) (values : List Float) (j : ℕ)
    → 0 < length numbers → j < length values → ((i : ℕ) → j ≤ i → i < length values → is_nan (get_or values i nan) ≡ false)
    → PivotByNumber numbers p magnitude values j (j + (pick numbers p magnitude values j).index)

-- an empty list: index_of_largest(&values.slice(s![j..])), as the Rust has it
abbrev pub FirstInPositionTheorem : Type 0
FirstInPositionTheorem = (p : List ℕ) (magnitude : Bool) (values : List Float) (j : ℕ) → pick [] p magnitude values j ≡ largest magnitude (drop j values)
