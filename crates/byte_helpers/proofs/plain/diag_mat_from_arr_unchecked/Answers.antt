use borrow.Author.Rules.{rules}
use mathlib.Core.Path.{◌≡◌, ◌∙◌}
use mathlib.Core.List.{List}
use Prim.Native.Nat.{ℕ, ◌*◌}
use native.Mathlib.Omega.{arith}
use lib.ListN.{length}
use Rattle.matrix.specs.Plain.{put_diagonal, diag_mat_from_arr}
use Rattle.encoding.specs.Bytes.{doubles}
use Rattle.encoding.proofs.Doubles.{doubles-length}
use Rattle.byte_helpers.proofs.PlainBytes.{put-start, put-turn, put-end, finite_bits}
use Rattle.byte_helpers.proofs.plain.diag_mat_from_arr_unchecked.Goals as goal

-- as many doubles as rows
rows : (b : List ℕ) (n : ℕ) → length b ≡ 8 * n → length (doubles b) ≡ n
rows b n h = doubles-length b ∙ omega (arith, h)

pub loop-i-init : goal.loop-i-init
loop-i-init c = (put-start _ c.requires.arr_len.1 c.clear_bytes.ensures, search rules)

pub loop-i-preserved : goal.loop-i-preserved
unfolding put_diagonal
loop-i-preserved c =
    let rows = rows _ _ c.requires.arr_len.0 in
    let h = c.loop-i-test.true in (
      put-turn _ _ _ c.loop-i.invariant.0 h c.cell.ensures.1 (λ m. rw (rows, c.cell.ensures.0))
          (finite_bits _ _ _ (omega (arith, c.requires.arr_len.0)) c.read_number.ensures (search rules) (c.requires.by_index _ h)) c.write_number.ensures.0,
      search rules,
    )

pub returns : goal.returns
unfolding diag_mat_from_arr
returns c = rw (rows _ _ c.requires.arr_len.0) (put-end c.loop-i.invariant.0 (search rules))
