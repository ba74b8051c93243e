-- `graph_writer::writer::front_length` meets its contract: the edition is the one that the arm names.
-- Assumes nothing.
use native.Mathlib.Omega.{arith}
use Rattle.graph_writer.proofs.writer.front_length.Goals as goal

pub returns-in-One : goal.returns-in-One
returns-in-One c = simp c.in-One.is (omega arith)

pub returns-in-Two : goal.returns-in-Two
returns-in-Two c = simp c.in-Two.is
