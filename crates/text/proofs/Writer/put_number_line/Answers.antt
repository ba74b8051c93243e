-- `text::Writer::put_number_line` meets its contract: the word, the number and the end of the line are put in turn. Assumes nothing.
use Rattle.text.proofs.PutTexts.{writes_then}
use Rattle.text.proofs.Writer.put_number_line.Goals as goal

pub returns : goal.returns
returns c = writes_then (writes_then c.put.ensures c.put_decimal.ensures) c.end_line.ensures
