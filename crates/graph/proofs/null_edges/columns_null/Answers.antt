-- `graph::null_edges::columns_null` meets its contract: the columns are null where those before the next multiple of eight and those from it
-- on are.
-- Assumes nothing.
use native.Mathlib.Omega.{arith}
use Rattle.graph.proofs.Runs.{run_fails, run_rest}
use Rattle.graph.proofs.null_edges.columns_null.Goals as goal

pub returns-then-not-bytes_null : goal.returns-then-not-bytes_null
returns-then-not-bytes_null c = run_fails _ _ _ _ _ c.bytes_null.ensures (c.if-not-bytes_null.true) (omega arith) (omega arith)

pub returns : goal.returns
returns c = run_rest _ _ _ _ (omega arith) (c.bytes_null.ensures.0 (c.if-not-bytes_null.false)) c.words_null.ensures
