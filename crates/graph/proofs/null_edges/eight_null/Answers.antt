-- `graph::null_edges::eight_null` meets its contract: the number that the eight bytes say is 0 exactly where they are (`Runs`).
-- Assumes nothing.
use Rattle.graph.proofs.Runs.{eight_null}
use Rattle.graph.proofs.null_edges.eight_null.Goals as goal

pub returns : goal.returns
returns c =
    let a = c.args in
    eight_null a.edges.now a.from _ c.eight.ensures
