-- `search::walk::admitted` meets its contract: the rows on the trail are the mapped rows (`trail_rows`). Assumes nothing.
use mathlib.Core.Path.{ap, ◌∙◌}
use lib.ListN.{get_or}
use Rattle.connected.specs.Spreading.{connected_set}
use Rattle.search.proofs.walk.admitted.Goals as goal

pub returns-else-not-tables : goal.returns-else-not-tables
returns-else-not-tables c = λ path depth ws long deep counted t.
    rw c.if-not-tables.false
    (c.is_connected_set.ensures
    ∙ ap (connected_set (λ v. get_or c.args.tables.neighbours.now v 0)) (c.trail_rows.ensures path depth ws long deep counted t))
