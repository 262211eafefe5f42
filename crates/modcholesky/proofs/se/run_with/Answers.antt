use mathlib.Core.Path.{◌≡◌, refl, sym, ap, ◌∙◌}
use mathlib.Core.List.{List}
use Prim.Native.Nat.{ℕ}
use lib.Ieee.{Float}
use Rattle.matrix.specs.Plain.{AllBelow}
use Rattle.methods.specs.Statements.{lower_triangle, reorder}
use Rattle.methods.specs.Result.{hand_back}
use Rattle.methods.specs.Calls.{Call, answered}
use Rattle.methods.specs.Se.{Run, lowered, run, mod_cholesky_se}
use Rattle.methods.specs.declared.schnabel_eskow.Tolerances.{Tolerances}
use Rattle.methods.specs.declared.schnabel_eskow.Variant.{Variant}
use Rattle.methods.proofs.Pivots.{permuted_below}
use Rattle.methods.proofs.SeRuns.{run-permuted}
use Rattle.modcholesky.proofs.se.run_with.Goals as goal

rows : (v : Variant) (t : Tolerances) (numbers : List ℕ) (n : ℕ) (a : List Float) (s : Run) → lowered n s ≡ lowered n (run v t numbers n a) → AllBelow n s.p
rows v t numbers n a s e = rw (ap (λ (x : Run). x.p) e) (permuted_below n (run v t numbers n a).p (run-permuted v t numbers n a))

pub reorder-requires : goal.reorder-requires
reorder-requires c =
    let lengths = c.requires.e_len in record { p_len = (c.p-1.given ∙ lengths.3, c.diag-1.given ∙ lengths.2, c.e-1.given ∙ lengths.0); all_below = rows _ _ _ _ _ _ c.phases-r.ensures }

se_is : (v : Variant) (t : Tolerances) (numbers : List ℕ) (n : ℕ) (a : List Float)
    → mod_cholesky_se v t numbers n a
    ≡ hand_back n (run v t numbers n a).progress (lower_triangle n (run v t numbers n a).l) (reorder n (run v t numbers n a).p (run v t numbers n a).e) (run v t numbers n a).p
unfolding mod_cholesky_se
se_is v t numbers n a = refl

handed-back : (v : Variant) (t : Tolerances) (numbers : List ℕ) (n : ℕ) (a : List Float) (s : Run) (l e : List Float) (x : Call) → lowered n s ≡ lowered n (run v t numbers n a) → l ≡ lower_triangle n s.l
    → e ≡ reorder n s.p s.e → x ≡ answered n (hand_back n s.progress l e s.p) → x ≡ answered n (mod_cholesky_se v t numbers n a)
handed-back v t numbers n a s l e x es el ee ex =
    let given : Run → Call = λ r. answered n (hand_back n r.progress r.l (reorder n r.p r.e) r.p) in
    let here : x ≡ given (lowered n s) = rw (el, ee) at ex in
    here ∙ ap given es ∙ ap (answered n) (sym (se_is v t numbers n a))

pub returns : goal.returns
returns c =
    handed-back _ _ _ _ _ _ _ _ _ c.phases-r.ensures c.lower_triangle.ensures c.reorder.ensures c.hand_back.ensures
