-- `text::Writer::put` meets its contract: the bytes passed are put, one at each turn. Assumes nothing.
use lib.ListN.{take}
use Rattle.text.specs.Writes.{Writes}
use Rattle.text.proofs.Writer.put.Given as goal

abbrev pub invariant-loop-byte : goal.invariant-loop-byte
invariant-loop-byte l = Writes (take l.byte-index l.bytes) l.initial.self l.self
