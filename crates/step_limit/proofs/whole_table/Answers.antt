-- `step_limit::whole_table` meets its contract: antt computes the test of the recurrence over the whole table. Assumes nothing.
use mathlib.Core.Path.{refl}
use Rattle.step_limit.proofs.WholeTable.{follows, recurrent, test_recurrence}
use Rattle.step_limit.proofs.whole_table.Goals as goal

pub returns : goal.returns
unfolding follows recurrent
returns c = test_recurrence _ refl refl
