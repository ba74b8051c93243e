-- `mapping::rows::Rows::first_fault` meets its contract: the rows looked at so far are clear, so that their entries are below 64.
-- Assumes nothing.
use lib.ListN.{length}
use Rattle.bounded.proofs.First.{ClearTo}
use Rattle.mapping.specs.LentRows.{lent_row}
use Rattle.mapping.proofs.rows.Rows.first_fault.Given as goal

abbrev pub invariant-loop-v : goal.invariant-loop-v
invariant-loop-v l = ClearTo (length l.self.mapping.now) (lent_row l.self.problem l.self.agreeing.now l.self.mapping.now) l.v
