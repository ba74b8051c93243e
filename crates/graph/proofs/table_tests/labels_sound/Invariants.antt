-- `graph::table_tests::labels_sound` meets its contract: the labels tested so far have passed.
-- Assumes nothing.
use Rattle.bounded.proofs.AllBelow.{PassedTo}
use Rattle.graph.specs.Soundness.{label_sound}
use Rattle.graph.proofs.table_tests.labels_sound.Given as goal

abbrev pub invariant-loop-v : goal.invariant-loop-v
invariant-loop-v l = PassedTo 64 (label_sound l.order l.labels) l.v
