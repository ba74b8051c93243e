-- `graph::same_edges::bytes_same` meets its contract: the edges compared so far are the same both ways.
-- Assumes nothing.
use Prim.Native.Nat.{◌≤◌}
use Rattle.graph.specs.EdgeRows.{Between, Same}
use Rattle.graph.proofs.same_edges.bytes_same.Given as goal

abbrev pub invariant-loop-b : goal.invariant-loop-b
invariant-loop-b l = (l.from ≤ l.b) × Between (Same l.edges l.a) l.from l.b
