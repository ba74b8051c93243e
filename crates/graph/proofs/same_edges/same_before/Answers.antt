-- `graph::same_edges::same_before` meets its contract: the edges are the same both ways where those by the word and those after them are.
-- Assumes nothing.
use native.Mathlib.Omega.{arith}
use Rattle.graph.proofs.Runs.{run_fails, run_rest}
use Rattle.graph.proofs.same_edges.same_before.Goals as goal

pub returns-then-not-words_same : goal.returns-then-not-words_same
returns-then-not-words_same c = run_fails _ _ _ _ _ c.words_same.ensures (c.if-not-words_same.true) (omega arith) (omega arith)

pub returns : goal.returns
returns c = run_rest _ _ _ _ (omega arith) (c.words_same.ensures.0 (c.if-not-words_same.false)) c.bytes_same.ensures
