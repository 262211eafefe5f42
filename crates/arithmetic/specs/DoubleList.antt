-- Lists of doubles.
use Rattle.std.specs.Prelude.{List, ℕ, ◌<◌, length, get_or, T, Float}
use Rattle.std.specs.Float.{nan, binary64}
use Rattle.std.specs.Float.Ieee.{fits}

-- every element is a double, as in every list that a call is given
abbrev pub AllDoubles : List Float → Type 0
AllDoubles xs = (k : ℕ) → k < length xs → T (fits binary64 (get_or xs k nan))
