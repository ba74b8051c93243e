-- `graph_writer::writer::put_vertex` meets its contract: the command of the arm's edition is copied to its place (`part_sets`).
-- Assumes nothing.
use mathlib.Core.List.{[], ◌∷◌}
use Prim.Native.Nat.{◌/◌, ◌%◌}
use native.Mathlib.Omega.{arith}
use Rattle.graph_writer.proofs.Parts.{part_sets}
use Rattle.graph_writer.proofs.writer.put_vertex.Goals as goal

pub returns-in-One-clause-bytes : goal.returns-in-One-clause-bytes
returns-in-One-clause-bytes c =
    rw c.in-One.is (part_sets _ _ _ _ (1 ∷ c.args.label ∷ []) c.copy_from_slice.ensures.after (omega arith) (rw c.in-One.is at c.requires.1))

pub returns-in-Two-clause-bytes : goal.returns-in-Two-clause-bytes
returns-in-Two-clause-bytes c =
    let label = c.args.label in
    rw c.in-Two.is (part_sets _ _ _ _ (3 ∷ label % 256 ∷ label / 256 ∷ []) c.copy_from_slice-in-Two.ensures.after (omega arith) (rw c.in-Two.is at c.requires.1))
