-- `search::ceiling::ceiling` meets its contract: it is the greatest of the cutoff, the node's own bound and its later siblings' bounds
-- (`StateCeiling`).
-- Assumes nothing.
use mathlib.Core.Path.{sym, ◌∙◌}
use Rattle.search.proofs.StateCeiling.{ceiling_finished, ceiling_open}
use Rattle.search.proofs.ceiling.ceiling.Goals as goal

pub returns-then-walk : goal.returns-then-walk
returns-then-walk c = λ connected P setting ready. sym (ceiling_finished setting ready c.if-walk.true)

pub returns : goal.returns
returns c = λ connected P setting ready.
    (rw c.max.ensures at (c.later_top.ensures P setting ready.node)) ∙ sym (ceiling_open setting ready c.if-walk.false)
