-- `reasons::all_rows` meets its contract: antt computes the text of each row. Assumes nothing.
use mathlib.Core.Path.{refl}
use Rattle.reasons.specs.Reasons.{bytes_of, reasons}
use Rattle.reasons.proofs.all_rows.Goals as goal

pub returns : goal.returns
unfolding bytes_of reasons
returns c = refl
