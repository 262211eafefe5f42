-- Bytes written into a buffer.
use Rattle.std.specs.Prelude.{◌≡◌, true, List, ◌++◌, ℕ, ◌+◌, ◌<◌, length, take, drop, get_or, Float}
use Rattle.std.specs.Float.{nan}
use Rattle.std.specs.Float.Ieee.Scale.{finite}

-- out, with xs in place of what stood from `at` on
unfoldable pub over : List ℕ → ℕ → List ℕ → List ℕ
over out at xs = take at out ++ xs ++ drop (at + length xs) out

-- xs now stands there from `at` on, and next is the position behind it
abbrev pub Wrote : List ℕ → ℕ → List ℕ → List ℕ → ℕ → Type 0
Wrote xs at out out' next = (out' ≡ over out at xs) × (next ≡ at + length xs)

abbrev pub EachFinite : List Float → Type 0
EachFinite x = (k : ℕ) → k < length x → finite (get_or x k nan) ≡ true
