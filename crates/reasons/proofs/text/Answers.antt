-- `reasons::text` meets its contract: a row has its number's text, and a number without a row has the empty one. Assumes nothing.
use mathlib.Core.Path.{refl}
use native.Mathlib.Omega.{arith}
use Rattle.reasons.proofs.RowTexts.{text_found}
use Rattle.reasons.proofs.text.Goals as goal

pub returns : goal.returns
returns c =
    text_found c.all_rows.result c.all_rows.ensures c.args.number _ (λ d. c.get.ensures.lookup.4 (omega arith) d) c.copied.ensures c.unwrap_or.ensures refl
