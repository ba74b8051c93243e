-- `search::walk::run` meets its contract: each turn makes one visit more, and keeps the walk ready for another (`RunTurn`).
-- Assumes nothing.
use Rattle.search.specs.Walking.{OnTrail}
use Rattle.search.proofs.RunTurn.{RanTo, Counts}
use Rattle.search.proofs.walk.run.Given as goal

abbrev pub invariant-loop-made : goal.invariant-loop-made
invariant-loop-made l =
    RanTo l.tables l.budget l.initial.workspace l.initial.at l.workspace l.at
    × Counts l.budget l.initial.at l.at l._made
    × OnTrail l.at.checkpoint.path l.at.checkpoint.depth l.trail l.workspace
