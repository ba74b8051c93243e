-- `graph_writer::writer::write_rows` meets its contract: the bytes of the rows passed are stored, and `at` is the place after them.
-- Assumes nothing.
use Rattle.answers.proofs.Stores.{StoredTo}
use Rattle.graph.specs.Lent.{lent_graph}
use Rattle.graph_writer.specs.Writing.{row_bytes}
use Rattle.graph_writer.proofs.writer.write_rows.Given as goal

abbrev pub invariant-loop-a : goal.invariant-loop-a
invariant-loop-a l = StoredTo l.graph.order (row_bytes (lent_graph l.graph)) l.start l.initial.out l.a l.at l.out
