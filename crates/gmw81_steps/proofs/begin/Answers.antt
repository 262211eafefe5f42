use mathlib.Core.Path.{◌≡◌}
use mathlib.Core.List.{List}
use Prim.Native.Nat.{ℕ}
use lib.ListN.{length}
use lib.Ieee.{Float}
use Rattle.matrix.specs.Matrix.{zeros}
use Rattle.methods.specs.Gmw81.{state, start}
use Rattle.methods.specs.Result.{identity}
use Rattle.methods.specs.Progress.{begun}
use Rattle.methods.specs.declared.progress.Progress.{Progress}
use Rattle.methods.proofs.GmwLaws.{started_is}
use Rattle.gmw81_steps.proofs.begin.Goals as goal

started : (n : ℕ) (a l c d d₀ e e₀ : List Float) (p p₀ : List ℕ) (r : Progress) → length d₀ ≡ n → length e₀ ≡ n → length p₀ ≡ n
    → l ≡ a → c ≡ (start n a).c → d ≡ zeros (length d₀) → e ≡ zeros (length e₀) → p ≡ identity (length p₀)
    → r ≡ begun → state l c d e p r ≡ start n a
started n a l c d d₀ e e₀ p p₀ r hd he hp el ec ed ee ep er = rw (started_is, el, ec, ed, hd, ee, he, ep, hp, er)

pub returns : goal.returns
returns c =
    let h = c.requires.d_len in
    started c.args.n c.args.a.now _ _ _ c.args.d.now _ c.args.e.now _ c.args.p.now _ h.0 h.1 h.2
    c.copy.ensures c.start_diagonal.ensures c.clear-2.ensures c.clear-3.ensures c.count_up.ensures c.begun.ensures
