-- `connected::neighbours` meets its contract: the vertices passed have their words.
-- Assumes nothing.
use Prim.Native.Nat.{◌≤◌}
use lib.ListN.{replicate}
use Rattle.bounded.proofs.Settled.{SettledTo}
use Rattle.connected.specs.Spreading.{neighbours}
use Rattle.connected.proofs.neighbours.Given as goal

abbrev pub invariant-loop-v : goal.invariant-loop-v
invariant-loop-v l = (l.v ≤ 64) × SettledTo (neighbours l.edges) (replicate 64 0) l.v l.words
