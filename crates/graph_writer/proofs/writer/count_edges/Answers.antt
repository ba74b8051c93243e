-- `graph_writer::writer::count_edges` meets its contract: the counts of all rows are added up (`sum_range`), and they are few.
-- Assumes nothing.
use Rattle.std.proofs.Common.{rules, arith, ◌∙◌}
use Rattle.std.proofs.lemmas.Iterator.{YieldsList-from_range, YieldsList-from_map}
use Rattle.std.proofs.lemmas.Iterator.Consumers.{sum_by_from_yields_List, fits_by_from_yields_list}
use Rattle.graph.specs.Lent.{lent_graph}
use Rattle.graph_writer.specs.Writing.{row_edge_count, edge_count}
use Rattle.graph_writer.proofs.Counts.{sum_range}
use Rattle.graph_writer.proofs.Length.{edge_count_max}
use Rattle.graph_writer.proofs.writer.count_edges.Goals as goal

pub sum-requires-clause-fits : goal.sum-requires-clause-fits
unfolding edge_count
sum-requires-clause-fits c =
    let order = c.args.graph.order in
    let counts = row_edge_count (lent_graph c.args.graph) in
    fits_by_from_yields_list counts _ _ _ (YieldsList-from_map _ counts (YieldsList-from_range 0 order order (cc) (omega arith)) c.map.ensures.closure (λ x r q k. search rules))
    (omega (arith, sum_range counts order, edge_count_max (lent_graph c.args.graph) c.requires.1))

pub returns : goal.returns
unfolding edge_count
returns c =
    let order = c.args.graph.order in
    let counts = row_edge_count (lent_graph c.args.graph) in
    sum_by_from_yields_List counts _ _ _ c.sum.ensures.ran (YieldsList-from_map _ counts (YieldsList-from_range 0 order order (cc) (omega arith)) c.map.ensures.closure (λ x r q k. search rules))
    ∙ sum_range counts order
