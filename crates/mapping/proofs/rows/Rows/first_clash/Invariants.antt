-- `mapping::rows::Rows::first_clash` meets its contract: the earlier rows looked at so far are clear.
-- Assumes nothing.
use Rattle.bounded.proofs.First.{ClearTo}
use Rattle.problem.specs.Lent.{lent}
use Rattle.mapping.specs.Check.{clash}
use Rattle.mapping.proofs.rows.Rows.first_clash.Given as goal

abbrev pub invariant-loop-u : goal.invariant-loop-u
invariant-loop-u l = ClearTo l.v.0 (clash (lent l.self.problem) l.self.mapping.now l.v.0) l.u
