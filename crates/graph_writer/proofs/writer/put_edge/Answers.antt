-- `graph_writer::writer::put_edge` meets its contract: the command is copied to its place (`part_sets`).
-- Assumes nothing.
use mathlib.Core.List.{[], ◌∷◌}
use native.Mathlib.Omega.{arith}
use Rattle.graph_writer.proofs.Parts.{part_sets}
use Rattle.graph_writer.proofs.writer.put_edge.Goals as goal

pub returns : goal.returns
returns c =
    let a = c.args in
    part_sets _ _ _ _ (2 ∷ a.a ∷ a.b ∷ a.label ∷ []) c.copy_from_slice.ensures.after (omega arith) c.requires
