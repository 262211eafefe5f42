use borrow.Author.Rules.{rules}
use Rattle.matrix.specs.Plain.{put_one, index_to_permutation_mat}
use Rattle.byte_helpers.proofs.PlainBytes.{put-start, put-turn, put-end, one-bits}
use Rattle.byte_helpers.proofs.plain.index_to_permutation_mat_unchecked.Goals as goal

pub loop-i-init : goal.loop-i-init
loop-i-init c = (put-start _ c.requires.mat_len.0 c.clear_bytes.ensures, search rules)

pub loop-i-preserved : goal.loop-i-preserved
unfolding put_one
loop-i-preserved c = (put-turn _ _ _ c.loop-i.invariant.0 (search rules) c.cell.ensures.1 (λ m. rw (c.cell.ensures.0, c.from.ensures)) one-bits c.write_number.ensures.0, search rules)

pub returns : goal.returns
unfolding index_to_permutation_mat
returns c = put-end c.loop-i.invariant.0 (search rules)
