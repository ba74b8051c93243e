-- `graph::table_tests::row_sound` meets its contract: each test tells one part of `VertexRow`.
-- Assumes nothing.
use Rattle.bounded.proofs.Tells.{tells_failed, tells_refuted}
use Rattle.graph.proofs.table_tests.row_sound.Goals as goal

pub returns-then-not-same_before : goal.returns-then-not-same_before
returns-then-not-same_before c = tells_failed (λ row. tells_refuted c.same_before.ensures (c.if-not-same_before.true) row.0)

pub returns : goal.returns
returns c =
    let same = c.same_before.ensures.0 (c.if-not-same_before.false) in
    (λ e. (same, c.columns_null.ensures.0 e), λ row. c.columns_null.ensures.1 row.1)
