use native.Mathlib.Omega.{arith}
use mathlib.Core.Path.{◌≡◌}
use Prim.Native.Nat.{◌*◌}
use lib.ListN.{length}
use Rattle.matrix.proofs.CheckLaws.{Accepted}
use Rattle.encoding.specs.Checks.{number_byte_checks}
use Rattle.byte_factor.specs.Factor.{entry_byte_checks}
use Rattle.byte_factor.proofs.FactorBytes.{numbers-read, passes_without, numbered_is}
use Rattle.byte_factor.proofs.factor_read.Goals as goal

pub read_numbers-requires : goal.read_numbers-requires
read_numbers-requires c =
    let passed : Accepted (entry_byte_checks c.args.method c.args.n c.args.a.now (number_byte_checks c.args.n c.args.numbers.now) (length c.args.l.now) (length c.args.work.now) (length c.args.e.now) (length c.args.p.now)) = record { is = c.requires.p_value } in
    let counted : length c.args.numbers.now ≡ 4 * c.args.n = let a = c.args in numbers-read a.method a.n a.a.now a.numbers.now _ _ _ _ (passed) in
    omega (arith, counted, c.requires.read_len)

pub factor_unchecked-requires : goal.factor_unchecked-requires
factor_unchecked-requires c =
    let passed : Accepted (entry_byte_checks c.args.method c.args.n c.args.a.now (number_byte_checks c.args.n c.args.numbers.now) (length c.args.l.now) (length c.args.work.now) (length c.args.e.now) (length c.args.p.now)) = record { is = c.requires.p_value } in
    let a = c.args in (passes_without a.method a.n a.a.now a.numbers.now _ _ _ _ (passed)).is

pub returns : goal.returns
returns c =
    let passed : Accepted (entry_byte_checks c.args.method c.args.n c.args.a.now (number_byte_checks c.args.n c.args.numbers.now) (length c.args.l.now) (length c.args.work.now) (length c.args.e.now) (length c.args.p.now)) = record { is = c.requires.p_value } in
    let a = c.args in numbered_is a.method a.n a.a.now a.numbers.now _ _ _ _ (passed) _ _ c.read_numbers.ensures c.factor_unchecked.ensures
