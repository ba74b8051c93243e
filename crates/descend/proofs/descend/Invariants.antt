-- `descend::descend` meets its contract: each turn makes a search call, and what is left to do after it is the rest of the whole call (`LoopTurn`); the minimum
-- falls from turn to turn. Assumes nothing.
use Rattle.problem.specs.Lent.{lent}
use Rattle.descend.proofs.LoopTurn.{Going}
use Rattle.descend.proofs.descend.Given as goal

abbrev pub invariant-loop-top : goal.invariant-loop-top
invariant-loop-top l =
    Going l.connected (lent l.problem) l.floor l.initial.at l.budget l.initial.workspace l.at l.left l.visits l.workspace

abbrev pub decreases-loop-top : goal.decreases-loop-top
decreases-loop-top l = l.at.minimum
