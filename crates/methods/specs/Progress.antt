-- What a run of any method holds beside its lists, and each change of it.
use Rattle.std.specs.Prelude.{Bool, true, cond, not, ◌||◌, ℕ, ◌+◌, Float, None}
use Rattle.std.specs.Float.Ieee.{lt}
use Rattle.arithmetic.specs.Double.{plus_zero}
use Rattle.methods.specs.Marks.{mark, marked}
use Rattle.methods.specs.declared.progress.Progress.{Progress}
use Rattle.methods.specs.declared.progress.Stores.{Stores}

abbrev pub begun : Progress
begun = record { delta_prev = plus_zero; tied = None; phase2 = None; refused = None; inexact = 0 }

-- step j has searched its pivot: document 01's tied step
abbrev pub searched : Bool → ℕ → Progress → Progress
searched tie j r = record { delta_prev = r.delta_prev; tied = mark r.tied tie j; phase2 = r.phase2; refused = r.refused; inexact = r.inexact }

-- phase one is left at step j: document 01's phase-two step
abbrev pub left : ℕ → Progress → Progress
left j r = record { delta_prev = r.delta_prev; tied = r.tied; phase2 = mark r.phase2 true j; refused = r.refused; inexact = r.inexact }

-- step j has stored values; ok: whether they are finite. The first that are not are refusal 9's step
abbrev pub stored : Bool → ℕ → Progress → Progress
stored ok j r = record { delta_prev = r.delta_prev; tied = r.tied; phase2 = r.phase2; refused = mark r.refused (not ok) j; inexact = r.inexact }

-- k of the diagonal roots just taken are inexact: document 02's count, N5
abbrev pub counted : ℕ → Progress → Progress
counted k r = record { delta_prev = r.delta_prev; tied = r.tied; phase2 = r.phase2; refused = r.refused; inexact = r.inexact + k }

-- 1 where the flag is true
unfoldable pub one_if : Bool → ℕ
one_if flag = cond flag 1 0

-- what a step stored, as the code hands it on
abbrev pub stores : Bool → ℕ → Stores
stores ok inexact = record { ok = ok; inexact = inexact }

-- if e[j] > 0.0 { .. delta_prev = e[j]; }
abbrev pub kept : Float → Progress → Progress
kept e r = record { delta_prev = cond (lt plus_zero e) e r.delta_prev; tied = r.tied; phase2 = r.phase2; refused = r.refused; inexact = r.inexact }

-- phase one was left, or a step refused: no further step of it is made
abbrev pub stopped : Progress → Bool
stopped r = marked r.phase2 || marked r.refused
