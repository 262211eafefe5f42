use mathlib.Core.Path.{sym, ap, ap₂, ◌∙◌}
use native.Mathlib.Omega.{arith}
use Rattle.arithmetic.specs.Sqrt.{sqrt, inexact}
use Rattle.arithmetic.specs.declared.sqrt.Rounded.{Rounded}
use Rattle.methods.specs.Progress.{one_if, stores}
use Rattle.methods.proofs.Mirrored.{mirrored-lower}
use Rattle.methods.proofs.Rows.{rows-eliminate}
use Rattle.statements.proofs.eliminate.Goals as goal

pub returns : goal.returns
returns c =
    let n = c.args.n in
    let j = c.args.j in
    let l = c.args.l.now in
    let x = c.get.ensures in
    let f = c.sqrt_flagged-root.ensures in
    let er = ap (λ (u : Rounded). u.value) f ∙ ap sqrt x in
    let D = c.divide_column-divided.ensures in
    let E = rows-eliminate n j l _ _ _ _ c.sqrt_flagged-root.result.value _ _ c.requires.j_lt_n c.requires.square.len er c.put.ensures D.0 D.1 c.eliminate_rows-rows.ensures in
    let ei = ap (λ (u : Rounded). u.inexact) f ∙ ap inexact (x ∙ sym (mirrored-lower n l j j c.requires.j_lt_n (omega arith))) in
    record { l_after = E.0; value = ap₂ stores (rw c.finite.ensures E.1) (c.one_if.ensures ∙ ap one_if ei) }
