-- `little_endian::store` meets its contract: the library's bytes of a number are those of the definition. Assumes nothing.
use mathlib.Core.Path.{◌∙◌}
use Rattle.little_endian.proofs.LittleEndian.{library_bytes}
use Rattle.little_endian.proofs.store.Goals as goal

pub returns : goal.returns
returns c = c.to_le_bytes.ensures ∙ library_bytes 7 c.args.x
