-- `search::words::meet_near` meets its contract: the rows left are met one by one (`MeetTurn`). What is read, at the level before, is never written.
-- Assumes nothing.
use Prim.Native.Nat.{◌+◌}
use Rattle.search.specs.Words.{near_word}
use Rattle.search.proofs.MeetTurn.{MetTo}
use Rattle.search.proofs.words.meet_near.Given as goal

abbrev pub invariant-loop-r : goal.invariant-loop-r
invariant-loop-r l =
    MetTo l.near (near_word l.tables.edges.now l.tables.masks.now l.from l.pairs l.value.0 l.initial.workspace) (l.pairs + 1) l.initial.workspace l.initial.rows l.initial.left l.workspace l.rest l.rows l.left

abbrev pub decreases-loop-r : goal.decreases-loop-r
decreases-loop-r l = l.rest
