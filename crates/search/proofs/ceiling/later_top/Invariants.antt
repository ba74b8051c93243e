-- `search::ceiling::later_top` meets its contract: level by level the later siblings are counted or passed over (`LaterTop`). A level's
-- bounds are made in the level after it, which is not needed any more.
-- Assumes nothing.
use Rattle.search.proofs.LaterTop.{LevelsHead}
use Rattle.search.proofs.ceiling.later_top.Given as goal

abbrev pub invariant-loop-row : goal.invariant-loop-row
invariant-loop-row l =
    LevelsHead l.tables.edges.now l.tables.masks.now l.path l.initial.workspace l.workspace l.depth l.pairs l.least l.row l.left l.top
