-- `graph_reader::reader::refuse` meets its contract: each table is all 0, at its length.
-- Assumes nothing.
use Rattle.graph_reader.proofs.reader.refuse.Goals as goal

pub returns : goal.returns
returns c = simp (c.fill.ensures.after (λ y e. e), c.fill-2.ensures.after (λ y e. e), c.requires.0, c.requires.1)
