use mathlib.Core.Path.{◌≡◌, ap}
use mathlib.Core.Bool.{true, false}
use mathlib.Core.List.{List}
use Prim.Native.Nat.{ℕ}
use native.Mathlib.Omega.{arith}
use lib.Ieee.{Float}
use Rattle.methods.specs.Gmw81.{state, dout_of, inexact_roots, unit_lower, product, scaled_finite, finish, Finished}
use Rattle.methods.specs.Marks.{marked}
use Rattle.methods.specs.Progress.{stored, counted, stores}
use Rattle.methods.specs.Statements.{reorder}
use Rattle.methods.specs.declared.progress.Progress.{Progress}
use Rattle.methods.specs.declared.progress.Stores.{Stores}
use Rattle.methods.proofs.Counts.{inexact_roots-most}
use Rattle.methods.proofs.GmwLaws.{finish-stays, finish-goes}
use Rattle.methods.proofs.MarkLaws.{marked-is}
use Rattle.gmw81_steps.proofs.finish.Goals as goal

stays : (n : ℕ) (l c d e : List Float) (p : List ℕ) (r : Progress) → marked r.refused ≡ true → Finished n l c d e p r l e r
stays n l c d e p r m =
    let h : finish n (state l c d e p r) ≡ state l c d e p r = finish-stays n (state l c d e p r) m in
    record { l_is = rw h; e_is = rw h; progress_is = rw h }

goes : (n : ℕ) (l c d e : List Float) (p : List ℕ) (r : Progress) (w : Stores) (l' e' : List Float) (q : Progress) → marked r.refused ≡ false
    → (l' ≡ product n (unit_lower n l) (dout_of n d)) × (w ≡ stores (scaled_finite n (dout_of n d) (product n (unit_lower n l) (dout_of n d))) (inexact_roots n d)) → e' ≡ reorder n p e
    → q ≡ stored w.ok n (counted w.inexact r) → Finished n l c d e p r l' e' q
goes n l c d e p r w l' e' q m es ee er =
    let h = finish-goes n (state l c d e p r) m in
    record { l_is = rw (h, es.0); e_is = rw (h, ee); progress_is = rw (h, er, es.1) }

pub returns-then-is_some : goal.returns-then-is_some
returns-then-is_some c = λ w. stays _ _ w _ _ _ _ (marked-is c.args.r.refused c.if-is_some.ensures)

pub rooted-requires : goal.rooted-requires
rooted-requires c =
    let k = ap (λ (w : Stores). w.inexact) c.scale-stores.ensures.value in
    omega (arith, k, inexact_roots-most c.args.n c.args.d.now, c.requires.square.small, c.requires.d_len.5)

pub returns : goal.returns
returns c =
    let a = c.args in
    λ w. goes a.n a.l.now w a.d.now a.e.now a.p.now a.r _ _ _ _
    (marked-is a.r.refused c.if-is_some.ensures) (c.scale-stores.ensures.l_after, c.scale-stores.ensures.value) c.reorder.ensures c.rooted.ensures
