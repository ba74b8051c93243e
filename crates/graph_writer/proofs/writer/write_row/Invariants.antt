-- `graph_writer::writer::write_row` meets its contract: the bytes of the edges passed are stored, and `at` is the place after them.
-- Assumes nothing.
use Rattle.answers.proofs.Stores.{StoredTo}
use Rattle.graph.specs.Lent.{lent_graph}
use Rattle.graph_writer.specs.Writing.{edge_bytes}
use Rattle.graph_writer.proofs.writer.write_row.Given as goal

abbrev pub invariant-loop-b : goal.invariant-loop-b
invariant-loop-b l = StoredTo l.graph.order (edge_bytes (lent_graph l.graph) l.a) l.start l.initial.out l.b l.at l.out
