-- Contract numbers as bytes: four for each, low byte first.
use Rattle.std.specs.Prelude.{List, [], ◌∷◌, ◌++◌, ℕ}
use Rattle.encoding.specs.Bytes.{bytes}

unfoldable pub number_bytes : List ℕ → List ℕ
unfolding bytes
number_bytes [] = []
number_bytes (k ∷ ks) = bytes 4 k ++ number_bytes ks
