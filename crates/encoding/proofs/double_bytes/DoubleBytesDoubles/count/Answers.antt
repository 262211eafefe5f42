use mathlib.Core.Path.{sym}
use Rattle.encoding.proofs.Doubles.{doubles-length}
use Rattle.encoding.proofs.double_bytes.DoubleBytesDoubles.count.Goals as goal

pub returns : goal.returns
returns c = sym (doubles-length _)
