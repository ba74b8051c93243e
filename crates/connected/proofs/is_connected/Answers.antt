-- `connected::is_connected` meets its contract: the words kept are the neighbours.
-- Assumes nothing.
use mathlib.Core.Path.{ap, ◌∙◌}
use lib.ListN.{get_or}
use Rattle.connected.specs.Spreading.{neighbours, connected_set}
use Rattle.connected.proofs.Spread.{connected_set_congr}
use Rattle.connected.proofs.is_connected.Goals as goal

pub returns : goal.returns
returns c =
    let edges = c.args.edges.now in
    c.is_connected_set.ensures
    ∙ connected_set_congr (λ v. get_or c.neighbours-words.result v 0) (neighbours edges) c.neighbours-words.ensures.word c.mapped_set.result
    ∙ ap (connected_set (neighbours edges)) c.mapped_set.ensures
