-- `graph::null_edges::bytes_null` meets its contract: the bytes tested so far are 0.
-- Assumes nothing.
use Prim.Native.Nat.{◌≤◌}
use Rattle.graph.specs.EdgeRows.{Between, Null}
use Rattle.graph.proofs.null_edges.bytes_null.Given as goal

abbrev pub invariant-loop-place : goal.invariant-loop-place
invariant-loop-place l = (l.from ≤ l.place) × Between (Null l.edges) l.from l.place
