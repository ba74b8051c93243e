-- `substitutes::label_at` meets its contract: both bytes of the label are there.
-- Assumes nothing.
use Rattle.substitutes.proofs.label_at.Goals as goal

pub returns : goal.returns
returns c = c.join_two.ensures
