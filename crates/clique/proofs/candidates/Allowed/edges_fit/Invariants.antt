-- `clique::candidates::Allowed::edges_fit` meets its contract: the edges to the rows looked at so far fit.
-- Assumes nothing.
use Rattle.bounded.proofs.AllBelow.{PassedTo}
use Rattle.clique.specs.LentRules.{edge_fits}
use Rattle.clique.proofs.candidates.Allowed.edges_fit.Given as goal

abbrev pub invariant-loop-i : goal.invariant-loop-i
invariant-loop-i l = PassedTo l.row.0 (edge_fits l.self.problem l.path l.row.0 l.vertex.0) l.i
