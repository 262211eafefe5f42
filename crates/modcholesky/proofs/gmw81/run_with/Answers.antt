use mathlib.Core.Path.{◌≡◌, refl, sym, ap, ◌∙◌, subst}
use mathlib.Core.List.{List}
use Prim.Native.Nat.{ℕ}
use native.Mathlib.Omega.{arith}
use lib.Ieee.{Float}
use Rattle.matrix.specs.Checks.{AllFinite}
use Rattle.matrix.specs.Plain.{AllBelow}
use Rattle.methods.specs.Calls.{Call, answered}
use Rattle.methods.specs.Gmw81.{Run, state, stepped, finish, Finished, run, mod_cholesky_gmw81}
use Rattle.methods.specs.Result.{hand_back}
use Rattle.std.specs.Prelude.{None}
use Rattle.methods.specs.declared.progress.Progress.{Progress}
use Rattle.methods.proofs.Counts.{steps_uncounted}
use Rattle.methods.proofs.FiniteEntries.{FiniteEntries}
use Rattle.methods.proofs.GmwFinite.{FiniteRun, steps_finite}
use Rattle.methods.proofs.GmwLaws.{finish-order}
use Rattle.methods.proofs.GmwRuns.{steps_permuted, run_is}
use Rattle.methods.proofs.Pivots.{Permuted, permuted_below}
use Rattle.modcholesky.proofs.gmw81.run_with.Goals as goal

module _ (numbers : List ℕ) (n : ℕ) (a : List Float) (s : Run) (e : s ≡ stepped numbers n a) where
  rows : AllBelow n s.p
  rows = permuted_below n s.p (subst (λ (x : Run). Permuted n x.p) (sym e) (steps_permuted numbers n _ _ a))

  uncounted : s.progress.inexact ≡ 0
  uncounted = rw e (steps_uncounted numbers n a)

  finites : FiniteEntries n a → s.progress.refused ≡ None → AllFinite n s.l
  finites F h = (subst (FiniteRun n) (sym e) (steps_finite numbers n _ _ a F) h).each

result_is : (numbers : List ℕ) (n : ℕ) (a : List Float) → mod_cholesky_gmw81 numbers n a ≡ hand_back n (run numbers n a).progress (run numbers n a).l (run numbers n a).e (run numbers n a).p
unfolding mod_cholesky_gmw81
result_is numbers n a = refl

ran : (numbers : List ℕ) (n : ℕ) (a : List Float) (l c d e : List Float) (p : List ℕ) (q : Progress) (l' e' : List Float) (q' : Progress) (r : Call) → state l c d e p q ≡ stepped numbers n a
    → Finished n l c d e p q l' e' q' → r ≡ answered n (hand_back n q' l' e' p) → r ≡ answered n (mod_cholesky_gmw81 numbers n a)
ran numbers n a l c d e p q l' e' q' r es F er =
    let k : finish n (state l c d e p q) ≡ run numbers n a = ap (finish n) es ∙ sym (run_is numbers n a) in
    er ∙ ap (answered n) (rw (F.l_is, F.e_is, F.progress_is, result_is, ← k) (rw (finish-order n (state l c d e p q))))

pub finish-finished-requires : goal.finish-finished-requires
finish-finished-requires c =
    let k = c.stepped-r.auto in record { square = omega (arith, k, c.requires); all_finite = finites _ _ _ _ c.stepped-r.ensures (record { entries = c.requires.square.len; each = c.requires.all_finite }); d_len = omega (arith, k, c.requires, uncounted _ _ _ _ c.stepped-r.ensures); all_below = rows _ _ _ _ c.stepped-r.ensures }

pub returns : goal.returns
returns c =
    ran _ _ _ _ _ _ _ _ _ _ _ _ _ c.stepped-r.ensures (c.finish-finished.ensures _) c.hand_back.ensures
