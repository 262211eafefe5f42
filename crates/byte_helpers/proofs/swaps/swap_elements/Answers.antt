use borrow.Author.Rules.{rules}
use mathlib.Core.Path.{◌∙◌}
use Rattle.encoding.proofs.Elements.{elements-swapped}
use Rattle.byte_helpers.proofs.swaps.swap_elements.Goals as goal

pub returns : goal.returns
returns c =
    c.write_number-2.ensures.0
    ∙ rw (c.write_number.ensures.0, c.read_number-second.ensures, c.read_number-first.ensures)
    (elements-swapped _ _ _ _ c.requires.0 c.requires.1 c.requires.2 (λ i. search rules))
