-- `text::Writer::put_pair_line` meets its contract: the word, the first number, the space, the second number and the end of the line are
-- put in turn. Assumes nothing.
use Rattle.text.proofs.PutTexts.{writes_then}
use Rattle.text.proofs.Writer.put_pair_line.Goals as goal

pub returns : goal.returns
returns c =
    writes_then
    (writes_then (writes_then (writes_then c.put.ensures c.put_decimal.ensures) c.put_byte.ensures) c.put_decimal-2.ensures)
    c.end_line.ensures
