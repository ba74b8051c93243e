-- `substitutes::labels_sound` meets its contract: the pairs tested so far have passed.
-- Assumes nothing.
use Rattle.bounded.proofs.AllBelow.{PassedTo}
use Rattle.substitutes.specs.Soundness.{pair_sound}
use Rattle.substitutes.proofs.labels_sound.Given as goal

abbrev pub invariant-loop-k : goal.invariant-loop-k
invariant-loop-k l = PassedTo l.count (pair_sound l.list) l.k
