-- src/utils.rs: index_of_largest and index_of_largest_abs, and whether a search is tied.
use Rattle.std.specs.Prelude.{List, Bool, true, false, cond, ℕ, ◌+◌, length, get_or, ltb, Float}
use Rattle.std.specs.Float.{nan}
use Rattle.std.specs.Float.Ieee.{lt, eq}
use Rattle.arithmetic.specs.Double.{abs}
use Rattle.arithmetic.specs.Loop.{range}
use Rattle.matrix.specs.declared.utils.Best.{Best}
use Rattle.matrix.specs.declared.utils.Found.{Found}

-- what a search compares: the magnitude in index_of_largest_abs, the value itself in index_of_largest
unfoldable pub key : Bool → Float → Float
unfolding abs
key true x = abs x
key false x = x

-- the largest so far and where it was first: a candidate that only equals it changes nothing
abbrev pub better : Best → Float → ℕ → Best
better s x i = cond (lt s.max x) (record { max = x; index = i }) s

unfoldable pub look : Bool → List Float → ℕ → Best → Best
unfolding key lt
look magnitude c i s = better s (key magnitude (get_or c i nan)) i

unfoldable pub best_of : Bool → List Float → Best
unfolding range look key
best_of magnitude c = range 0 (length c) (look magnitude c) (record { max = key magnitude (get_or c 0 nan); index = 0 })

-- how many candidates equal x: +0.0 and -0.0 do
unfoldable pub tally : Bool → List Float → Float → ℕ → ℕ → ℕ
unfolding key eq
tally magnitude c x i count = cond (eq x (key magnitude (get_or c i nan))) (count + 1) count

unfoldable pub count_equal : Bool → List Float → Float → ℕ
unfolding range tally
count_equal magnitude c x = range 0 (length c) (tally magnitude c x) 0

-- A search is tied where its largest value stands at two or more candidates (document 01's tied step).
unfoldable pub largest : Bool → List Float → Found
unfolding best_of count_equal
largest magnitude c = record { index = (best_of magnitude c).index; tied = ltb 1 (count_equal magnitude c (best_of magnitude c).max) }
