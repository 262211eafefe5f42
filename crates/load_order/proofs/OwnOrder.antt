-- The theorem on a run's own order.
use mathlib.Core.Path.{◌≡◌, refl, sym, ap, ◌∙◌, subst}
use mathlib.Core.List.{List, []}
use Prim.Native.Nat.{ℕ, ◌<◌}
use native.Mathlib.Omega.{arith}
use lib.ListN.{get_or}
use lib.Seq.{ext_get_or}
use Rattle.std.specs.Prelude.{Ok, None, Some}
use Rattle.matrix.proofs.TableLaws.{length-table, get_or-table}
use Rattle.methods.specs.Reloading.{LoadOrder, reload}
use Rattle.methods.specs.Result.{identity, outcome_of, reported, filled_order}
use Rattle.methods.specs.Gmw81.{mod_cholesky_gmw81}
use Rattle.methods.specs.Gmw81 as gmw
use Rattle.methods.specs.Se.{mod_cholesky_se}
use Rattle.methods.specs.Se as ses
use Rattle.methods.specs.Factor.{factor}
use Rattle.methods.specs.declared.method.Method.TheVariants.{Gmw81, Se}
use Rattle.methods.specs.Marks.{Mark}
use Rattle.methods.proofs.GmwRuns as gmw-runs
use Rattle.methods.proofs.LoadOrders.{position}
use Rattle.methods.proofs.Loaded.{loaded}
use Rattle.methods.proofs.Pivots.{Permuted, permuted_order, permuted_below}
use Rattle.methods.proofs.SeRuns as se-runs
use Rattle.load_order.specs.OwnOrder.{OwnOrder, OwnOrderTheorem}
use Rattle.load_order.proofs.Ends.{End, handed, BothAlike}
use Rattle.load_order.proofs.Se as se-end
use Rattle.load_order.proofs.Gmw81 as gmw-end

-- ---- a complete run
complete-never : (m : Mark) → outcome_of m ≡ Ok tt → m ≡ None
complete-never None e = refl
complete-never (Some t) e = cc

filled-never : (m : Mark) (n : ℕ) (p : List ℕ) → m ≡ None → filled_order m n p ≡ p
filled-never m n p e = rw e

-- ---- q is in order where p[q[t]] is p[t]
in_order : (n : ℕ) (p q : List ℕ) → LoadOrder n p → Permuted n q → ((t : ℕ) → t < n → get_or p t 0 ≡ get_or p (get_or q t 0) 0) → q ≡ identity n
in_order n p q L P h = ext_get_or 0 q (identity n) (P.len ∙ sym (length-table n (λ i. i))) (λ t l.
    let k : t < n = omega (arith, P.len) in
    sym (L.once t (get_or q t 0) k (permuted_below n q P t l) (h t k)) ∙ sym (get_or-table n (λ i. i) t 0 k))

-- ---- what is handed back
handed-own : (n : ℕ) (A B : End) → Permuted n A.p → Permuted n B.p → A.progress.refused ≡ None → BothAlike n A.p A B → OwnOrder n (handed n A) (handed n B)
handed-own n A B P Q e C =
    let f : B.progress.refused ≡ None = sym (ap (λ r. r.refused) C.same) ∙ e in
    let D = C.completed e in
    record {
      decomposition = ap reported (sym C.same);
      factors = rw (e, f) (sym D.factors);
      amounts = rw (e, f) D.amounts;
      pivots = rw f (in_order n A.p B.p (permuted_order n A.p P) Q D.pivots);
    }

pub own_order : OwnOrderTheorem
unfolding factor mod_cholesky_gmw81 mod_cholesky_se
own_order Gmw81 t n a A c u =
    let r = gmw.run [] n a in
    let P = gmw-runs.run-permuted [] n a in
    let e = complete-never r.progress.refused c in
    subst (λ (p : List ℕ). OwnOrder n (handed n (gmw-end.end_of r)) (handed n (gmw-end.end_of (gmw.run [] n (reload n p a))))) (sym (filled-never r.progress.refused n r.p e))
    (handed-own n (gmw-end.end_of r) (gmw-end.end_of (gmw.run [] n (reload n r.p a))) P (gmw-runs.run-permuted [] n (reload n r.p a)) e
    (gmw-end.gmw81-own n r.p (position n r.p) a (reload n r.p a) (loaded n a r.p A (permuted_order n r.p P)) refl u e))
own_order (Se v) t n a A c u =
    let r = ses.run v t [] n a in
    let P = se-runs.run-permuted v t [] n a in
    let e = complete-never r.progress.refused c in
    subst (λ (p : List ℕ). OwnOrder n (handed n (se-end.end_of n r)) (handed n (se-end.end_of n (ses.run v t [] n (reload n p a))))) (sym (filled-never r.progress.refused n r.p e))
    (handed-own n (se-end.end_of n r) (se-end.end_of n (ses.run v t [] n (reload n r.p a))) P (se-runs.run-permuted v t [] n (reload n r.p a)) e
    (se-end.se_own v t n r.p (position n r.p) a (reload n r.p a) (loaded n a r.p A (permuted_order n r.p P)) refl u e))
