-- Marks: document 01's tied step, phase-two step, and the step of refusal 9.
use Rattle.std.specs.Prelude.{Bool, true, false, cond, ℕ, Option, None, Some}

-- a step, or none
abbrev pub Mark : Type 0
Mark = Option ℕ

-- the first mark stays
abbrev pub mark : Mark → Bool → ℕ → Mark
mark None b j = cond b (Some j) None
mark (Some k) b j = Some k

abbrev pub marked : Mark → Bool
marked None = false
marked (Some k) = true
