-- `graph::table_tests::edges_sound` meets its contract: the rows tested so far are sound, and what the tests ask of all rows is what
-- `edges_sound` asks (`EdgeRows`).
-- Assumes nothing.
use Prim.Native.Nat.{ℕ, ◌<◌}
use Rattle.graph.specs.EdgeRows.{VertexRow}
use Rattle.graph.proofs.table_tests.edges_sound.Given as goal

abbrev pub invariant-loop-a : goal.invariant-loop-a
invariant-loop-a l = (k : ℕ) → k < l.a → VertexRow l.order l.edges k
