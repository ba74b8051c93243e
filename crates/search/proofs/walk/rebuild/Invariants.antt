-- `search::walk::rebuild` meets its contract: each row passed that took a new vertex is refined (`RebuildTurn`).
-- Assumes nothing.
use Rattle.search.specs.Walking.{OnTrail}
use Rattle.search.proofs.RebuildTurn.{RebuiltTo}
use Rattle.search.proofs.walk.rebuild.Given as goal

abbrev pub invariant-loop-row : goal.invariant-loop-row
invariant-loop-row l =
    RebuiltTo l.tables.edges.now l.tables.masks.now l.path l.depth l.initial.workspace l.workspace l.row l.pairs × OnTrail l.path l.row l.trail l.workspace
