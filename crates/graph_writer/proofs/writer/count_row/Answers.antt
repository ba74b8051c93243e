-- `graph_writer::writer::count_row` meets its contract: the listed edges of the row are counted (`count_below`).
-- Assumes nothing.
use Rattle.std.proofs.Common.{rules, arith, ◌∙◌}
use borrow.Author.Tests.{tests}
use Rattle.std.proofs.lemmas.Iterator.{YieldsList-from_range}
use Rattle.std.proofs.lemmas.Iterator.Consumers.{YieldsList-from_filter, count_from_yields_List}
use Rattle.graph.specs.Lent.{lent_graph}
use Rattle.graph_writer.specs.Writing.{listed}
use Rattle.graph_writer.proofs.Counts.{count_below}
use Rattle.graph_writer.proofs.writer.count_row.Goals as goal

pub returns : goal.returns
returns c =
    let test = listed (lent_graph c.args.graph) c.args.a in
    count_from_yields_List _ _ c.count.ensures.ran (YieldsList-from_filter _ test (YieldsList-from_range 0 c.args.graph.order c.args.graph.order (cc) (omega arith)) c.filter.ensures.closure (λ x r q k. search (rules, tests)))
    ∙ count_below test c.args.graph.order
