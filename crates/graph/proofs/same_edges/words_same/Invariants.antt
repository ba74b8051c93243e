-- `graph::same_edges::words_same` meets its contract: the words compared so far are the same.
-- Assumes nothing.
use Prim.Native.Nat.{◌*◌}
use Rattle.graph.specs.EdgeRows.{Between, Same}
use Rattle.graph.proofs.same_edges.words_same.Given as goal

abbrev pub invariant-loop-word : goal.invariant-loop-word
invariant-loop-word l = Between (Same l.edges l.a) 0 (8 * l.word)
