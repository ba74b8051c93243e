-- `search::walk::move_down` meets its contract: the entries before `i` are made (`MovedPath`).
-- Assumes nothing.
use Rattle.search.proofs.MovedPath.{MovedTo}
use Rattle.search.proofs.walk.move_down.Given as goal

abbrev pub invariant-loop-i : goal.invariant-loop-i
invariant-loop-i l = MovedTo l.initial.path l.depth l.last l.path l.i
