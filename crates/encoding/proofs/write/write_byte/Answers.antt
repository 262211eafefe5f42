use mathlib.Core.Path.{refl}
use Rattle.encoding.proofs.Over.{over-byte}
use Rattle.encoding.proofs.write.write_byte.Goals as goal

pub returns : goal.returns
returns c = (over-byte _ _ _ c.requires, refl)
