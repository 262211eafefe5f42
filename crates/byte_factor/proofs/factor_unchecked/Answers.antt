use Prim.Native.Nat.{◌*◌, ◌≤◌}
use native.Mathlib.Omega.{arith}
use Rattle.matrix.proofs.CellLaws.{square-small}
use Rattle.byte_factor.proofs.FactorBytes.{sized}
use Rattle.byte_factor.proofs.factor_unchecked.Goals as goal

pub overflow_mul-m : goal.overflow_mul-m
overflow_mul-m c =
    let small : (c.args.n ≤ 48) × (c.args.n * c.args.n ≤ 2304) = let h = (sized _ _ _ _ _ _ _ _ (record { is = c.requires })).square.small in (h, square-small c.args.n h) in
    omega (arith, (small).1)

pub slice_bounds-a2-end : goal.slice_bounds-a2-end
slice_bounds-a2-end c =
    let small : (c.args.n ≤ 48) × (c.args.n * c.args.n ≤ 2304) = let h = (sized _ _ _ _ _ _ _ _ (record { is = c.requires })).square.small in (h, square-small c.args.n h) in
    (small).1
