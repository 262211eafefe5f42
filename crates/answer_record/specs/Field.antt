-- The fields that records are made of.
use Rattle.std.specs.Prelude.{List, ◌∷◌, ◌++◌, ℕ, length}
use Rattle.encoding.specs.Bytes.{bytes}

-- a field: one-byte tag, two-byte length, content
abbrev pub field : ℕ → List ℕ → List ℕ
field tag content = tag ∷ bytes 2 (length content) ++ content
