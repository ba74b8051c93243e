-- `substitutes::sets::LabelPlaces::having` meets its contract: the sets of the two bytes meet. Assumes nothing.
-- Rattle finds this proof too; it stands here so that the refusal of `must-fail/low_bytes_alone.edit` names `returns`.
use Rattle.substitutes.proofs.sets.LabelPlaces.having.Goals as goal

pub returns : goal.returns
returns c = c.meet.ensures
