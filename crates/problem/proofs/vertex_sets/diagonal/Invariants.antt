-- `problem::vertex_sets::diagonal` meets its contract: the numbers passed have their edges with themselves.
-- Assumes nothing.
use Prim.Native.Nat.{◌≤◌}
use lib.ListN.{get_or, replicate}
use Rattle.bounded.proofs.Settled.{SettledTo}
use Rattle.graph.specs.Graph.{place}
use Rattle.problem.proofs.vertex_sets.diagonal.Given as goal

abbrev pub invariant-loop-v : goal.invariant-loop-v
invariant-loop-v l = (l.v ≤ 64) × SettledTo (λ u. get_or l.edges (place u u) 0) (replicate 64 0) l.v l.own
