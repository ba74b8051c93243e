-- `graph::null_edges::words_null` meets its contract: the words tested so far are 0.
-- Assumes nothing.
use Prim.Native.Nat.{◌*◌, ◌≤◌}
use Rattle.graph.specs.EdgeRows.{Between, Null}
use Rattle.graph.proofs.null_edges.words_null.Given as goal

abbrev pub invariant-loop-word : goal.invariant-loop-word
invariant-loop-word l = (l.from ≤ 8 * l.word) × Between (Null l.edges) l.from (8 * l.word)
