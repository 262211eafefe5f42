use mathlib.Core.Path.{◌≡◌}
use mathlib.Core.Bool.{true}
use mathlib.Core.List.{List}
use Prim.Native.Nat.{ℕ, ◌*◌, ◌≤◌}
use native.Mathlib.Omega.{arith}
use lib.ListN.{length}
use Rattle.arithmetic.specs.Outcome.{complete}
use Rattle.matrix.proofs.CellLaws.{square-small}
use Rattle.record.specs.MatrixRecord.{request_checks}
use Rattle.record.specs.declared.read.Request.{Request}
use Rattle.record.proofs.Accepted.{request-accepted, contracts-fit}
use Rattle.record.proofs.answer.answer_request.Goals as goal

small : (r : Request) (room : ℕ) (contracts entries : List ℕ) → complete (request_checks r room contracts entries) ≡ true → (r.size ≤ 48) × (r.size * r.size ≤ 2304)
small r room contracts entries h = let s = (request-accepted r room contracts entries (record { is = h })).0.square.small in (s, square-small r.size s)

pub overflow_mul-m : goal.overflow_mul-m
overflow_mul-m c = omega (arith, (small c.args.r (length c.args.out.now) c.args.contracts.now c.args.entries.now c.requires.entries_value).1)

pub slice_bounds-numbers-end : goal.slice_bounds-numbers-end
slice_bounds-numbers-end c = let p = c.requires in (contracts-fit c.args.r (length c.args.out.now) c.args.contracts.now c.args.entries.now (record { is = p.entries_value }) p.own_contracts).1

pub slice_bounds-a-end : goal.slice_bounds-a-end
slice_bounds-a-end c = (small c.args.r (length c.args.out.now) c.args.contracts.now c.args.entries.now c.requires.entries_value).1

pub answer_entries-requires : goal.answer_entries-requires
answer_entries-requires c =
    let fit = (contracts-fit c.args.r (length c.args.out.now) c.args.contracts.now c.args.entries.now (record { is = c.requires.entries_value }) c.requires.own_contracts).0 in record { entries_value = c.requires.entries_value; contracts_len = omega (arith, fit, c.numbers-1.given); buffers = (omega (arith, c.a-1.given), omega (arith, c.l-1.given), omega (arith, c.work-1.given), omega (arith, c.e-1.given), omega (arith, c.p-1.given)) }
