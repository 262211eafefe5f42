-- The first position at which a test fails.
use Rattle.std.specs.Prelude.{Bool, cond, ℕ, zero, suc}

-- the first of a, a + 1, .., a + k - 1 that is bad; a + k where none is
unfoldable pub first_from : (ℕ → Bool) → ℕ → ℕ → ℕ
first_from bad a zero = a
first_from bad a (suc k) = let r = first_from bad (suc a) k in cond (bad a) a r

-- the first below n that is bad; n where none is
abbrev pub first : (ℕ → Bool) → ℕ → ℕ
first bad n = first_from bad 0 n
