-- `graph_reader::read_edition` meets its contract: tables of the right lengths are cleared, and the file is read into them.
-- Assumes nothing.
use Rattle.graph_reader.proofs.read_edition.Goals as goal

pub read_file-requires : goal.read_file-requires
read_file-requires c =
    (simp (c.fill.ensures.after (λ y e. e), c.if-labels-ne-MAX_ORDER.false), simp (c.fill-2.ensures.after (λ y e. e), c.if-edges-ne-EDGE_BYTES.false))
