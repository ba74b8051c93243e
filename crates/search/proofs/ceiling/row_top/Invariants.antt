-- `search::ceiling::row_top` meets its contract: the bound with the row left out, and that of each greater member, are taken in (`RowTop`).
-- The next level serves as scratch for these bounds; the levels that are read are never written.
-- Assumes nothing.
use Prim.Native.Nat.{◌-◌}
use Rattle.search.specs.Words.{SameLevels}
use Rattle.search.proofs.RowTop.{RowHead}
use Rattle.search.proofs.ceiling.row_top.Given as goal

abbrev pub invariant-loop-v : goal.invariant-loop-v
invariant-loop-v l =
    RowHead l.tables.edges.now l.tables.masks.now l.initial.workspace l.row.0 l.pairs l.initial.last l.top l.last × SameLevels l.pairs l.initial.workspace l.workspace

abbrev pub decreases-loop-v : goal.decreases-loop-v
decreases-loop-v l = 64 - l.last
