use mathlib.Core.Path.{◌≡◌, refl, sym, ap, ap₂, ◌∙◌}
use mathlib.Core.Bool.{Bool, ◌&&◌}
use mathlib.Core.List.{List}
use Prim.Native.Nat.{ℕ, ◌*◌, ◌<◌}
use native.Mathlib.Omega.{arith}
use lib.ListN.{length, get_or}
use lib.Ieee.{Float, nan}
use lib.Ieee.Scale.{finite}
use Rattle.arithmetic.specs.All.{all}
use Rattle.arithmetic.specs.Double.{one}
use Rattle.arithmetic.specs.Loop.{range}
use Rattle.arithmetic.specs.Sqrt.{sqrt}
use Rattle.matrix.specs.Matrix.{put}
use Rattle.matrix.specs.Table.{table}
use Rattle.methods.specs.Gmw81.{dout_of, inexact_roots, unit_lower, product, scaled_finite}
use Rattle.methods.specs.Progress.{stores}
use Rattle.methods.specs.Statements.{lower_triangle}
use Rattle.methods.proofs.FiniteEntries.{FiniteEntries, unit_lower_finite}
use Rattle.methods.proofs.Scaled.{scale_row, scaled_is, scaled_finite_is}
use Rattle.gmw81_steps.proofs.scale.Goals as goal

unit_lower_is : (n : ℕ) (l : List Float) → unit_lower n l ≡ lower_triangle n (range 0 n (λ i m. put n m i i one) l)
unfolding unit_lower
unit_lower_is n l = refl

scaled : (n : ℕ) (l d r l₁ l₂ l₃ : List Float) (b₁ b₂ ok : Bool) (k : ℕ) → 0 < n → length d ≡ n → FiniteEntries n l → length l₃ ≡ n * n
    → r ≡ table (length d) (λ i. sqrt (get_or d i nan)) → l₁ ≡ range 0 n (λ i m. put n m i i one) l → l₂ ≡ lower_triangle n l₁ → l₃ ≡ range 0 n (scale_row n r) l₂
    → b₁ ≡ all 0 (length r) (λ i. finite (get_or r i nan)) → b₂ ≡ all 0 (length l₃) (λ i. finite (get_or l₃ i nan)) → ok ≡ (b₁ && b₂) → k ≡ inexact_roots (length d) d
    → (l₃ ≡ product n (unit_lower n l) (dout_of n d)) × (stores ok k ≡ stores (scaled_finite n (dout_of n d) (product n (unit_lower n l) (dout_of n d))) (inexact_roots n d))
scaled n l d r l₁ l₂ l₃ b₁ b₂ ok k pn hd F h₃ er e₁ e₂ e₃ f₁ f₂ f ek =
    let e : r ≡ table n (λ i. sqrt (get_or d i nan)) = er ∙ ap (λ (k : ℕ). table k (λ i. sqrt (get_or d i nan))) hd in
    let U = unit_lower_finite n l F in
    let g : l₃ ≡ product n (unit_lower n l) (dout_of n d) =
    e₃ ∙ ap (range 0 n (scale_row n r)) (e₂ ∙ ap (lower_triangle n) e₁ ∙ sym (unit_lower_is n l)) ∙ scaled_is n (unit_lower n l) r d e U.entries U.each in
    (g, ap₂ stores (f ∙ rw (f₁, f₂) (scaled_finite_is n d r pn e l₃ h₃) ∙ ap (scaled_finite n (dout_of n d)) g) (ek ∙ ap (λ (m : ℕ). inexact_roots m d) hd))

pub returns : goal.returns
returns c = let h = scaled c.args.n c.args.l.now c.args.d.now _ _ _ _ _ _ _ _ c.requires.d_len.1 c.requires.d_len.0 (record { entries = c.requires.square.len; each = c.requires.all_finite })
    (omega (arith, c.scale_rows.auto, c.lower_triangle.auto, c.unit_diagonal.auto, c.requires.square))
    c.roots-inexact.ensures.d_after c.unit_diagonal.ensures c.lower_triangle.ensures c.scale_rows.ensures
    c.list_finite.ensures c.list_finite-2.ensures refl c.roots-inexact.ensures.value in record { l_after = h.0; value = h.1 }
