-- `graph_reader::commands::apply` meets its contract.
-- Assumes nothing.
use Rattle.graph_reader.proofs.commands.apply.Goals as goal

pub returns-in-Edge : goal.returns-in-Edge
returns-in-Edge c =
    let told = c.in-Edge.is in
    let to = c.args.to in
    let labels = c.args.labels.now in
    simp told (c.add_edge.ensures to labels)
