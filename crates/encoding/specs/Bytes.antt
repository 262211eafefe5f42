-- Numbers and doubles as bytes, low byte first.
use Rattle.std.specs.Prelude.{List, [], ◌∷◌, ◌++◌, ℕ, zero, suc, ◌+◌, ◌*◌, ◌/◌, ◌%◌, length, take, drop, Float}
use Rattle.std.specs.Float.{binary64}
use Rattle.std.specs.Float.Ieee.{of_bits, to_bits}
use Rattle.matrix.specs.Table.{table}

-- the number that bytes stand for, low byte first
unfoldable pub low_first : List ℕ → ℕ
low_first [] = 0
low_first (x ∷ xs) = x + 256 * low_first xs

-- the k lowest bytes of v
unfoldable pub bytes : ℕ → ℕ → List ℕ
bytes zero v = []
bytes (suc k) v = v % 256 ∷ bytes k (v / 256)

-- the double that eight bytes stand for
unfoldable pub double : List ℕ → Float
unfolding low_first
double xs = of_bits binary64 (low_first xs)

-- content of eight bytes for each double
unfoldable pub doubles : List ℕ → List Float
unfolding table double
doubles content = table (length content / 8) (λ k. double (take 8 (drop (8 * k) content)))

-- content of four bytes for each contract number
unfoldable pub numbers : List ℕ → List ℕ
unfolding table low_first
numbers content = table (length content / 4) (λ k. low_first (take 4 (drop (4 * k) content)))

unfoldable pub double_bytes : List Float → List ℕ
unfolding bytes
double_bytes [] = []
double_bytes (x ∷ xs) = bytes 8 (to_bits binary64 x) ++ double_bytes xs
