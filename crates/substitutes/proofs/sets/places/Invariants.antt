-- `substitutes::sets::places` meets its contract: the places passed stand in the sets of their bytes.
-- Assumes nothing.
use Prim.Native.Nat.{◌≤◌}
use lib.ListN.{length}
use Rattle.substitutes.proofs.Placed.{PlacedTo}
use Rattle.substitutes.proofs.sets.places.Given as goal

abbrev pub invariant-loop-w : goal.invariant-loop-w
invariant-loop-w l = (l.w ≤ length l.labels) × PlacedTo l.labels l.unit l.w l.sets
