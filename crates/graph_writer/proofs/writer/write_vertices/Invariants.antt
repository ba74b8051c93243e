-- `graph_writer::writer::write_vertices` meets its contract: the bytes of the vertices passed are stored, and `at` is the place after them.
-- Assumes nothing.
use Rattle.answers.proofs.Stores.{StoredTo}
use Rattle.graph.specs.Lent.{lent_graph}
use Rattle.graph_writer.specs.Writing.{vertex_bytes}
use Rattle.graph_writer.proofs.writer.write_vertices.Given as goal

abbrev pub invariant-loop-label : goal.invariant-loop-label
invariant-loop-label l = StoredTo l.graph.order (vertex_bytes l.edition (lent_graph l.graph)) l.start l.initial.out l.label-index l.at l.out
