use mathlib.Core.Path.{sym, ◌∙◌}
use Rattle.checkpoint_loader.proofs.FaultTurn.{turn_first, turn_more, turn_stuck, turn_done, turn_cut}
use Rattle.checkpoint_loader.proofs.form.find_fault.Goals as goal

pub loop-at-init : goal.loop-at-init
loop-at-init c = turn_first _ _

pub returns-in-None : goal.returns-in-None
returns-in-None c = turn_stuck _ _ _ _ c.loop-at.invariant c.loop-at-test.true (sym c.next.ensures ∙ c.in-None.is)

pub loop-at-preserved : goal.loop-at-preserved
loop-at-preserved c = turn_more _ _ _ _ c.loop-at.invariant _ c.loop-at-test.true (sym c.next.ensures ∙ c.in-Some.is)

pub returns-in-Done : goal.returns-in-Done
returns-in-Done c = turn_done _ _ _ _ c.loop-at.invariant c.loop-at-test.false c.in-Done.is

pub returns-in_default : goal.returns-in_default
returns-in_default c = turn_cut _ _ _ _ c.loop-at.invariant c.loop-at-test.false c.in_default.not-Done
