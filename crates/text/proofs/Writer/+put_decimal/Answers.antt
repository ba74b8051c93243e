-- `text::Writer::put_decimal` meets its contract: a number below 10 is one digit, any other is its tenth and then its last digit.
-- Assumes nothing.
use mathlib.Core.Path.{sym}
use Rattle.text.proofs.Decimals.{decimal_low, decimal_high}
use Rattle.text.proofs.PutTexts.{writes_same, writes_then}
use Rattle.text.proofs.Writer.+put_decimal.Goals as goal

pub returns-then-n-lt10 : goal.returns-then-n-lt10
returns-then-n-lt10 t c = writes_same (sym (decimal_low _ c.if-n-lt10.true)) c.put_byte.ensures

pub returns-else-n-lt10 : goal.returns-else-n-lt10
returns-else-n-lt10 t c =
    writes_same (sym (decimal_high _ c.if-n-lt10.false)) (writes_then c.put_decimal.ensures c.put_byte-else-n-lt10.ensures)
