-- `graph::same_edges::eight_same` meets its contract: eight bytes of the row and eight of the column say one number exactly where they are the
-- same (`Runs`).
-- Assumes nothing.
use native.Mathlib.Omega.{arith}
use Rattle.graph.proofs.Runs.{eight_same}
use Rattle.graph.proofs.same_edges.eight_same.Goals as goal

pub returns : goal.returns
returns c =
    let row = c.before in
    let entry = row.before in
    let a = entry.args in
    eight_same a.edges.now a.a a.b _ _ (λ i. omega (arith, entry.fits-edges i)) row.eight-row.ensures c.eight-column.ensures
