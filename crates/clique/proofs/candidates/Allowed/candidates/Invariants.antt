-- `clique::candidates::Allowed::candidates` meets its contract: of the free vertices looked at so far those whose edges fit are gathered.
-- Assumes nothing.
use Rattle.bounded.specs.Below.{all_below}
use Rattle.bitset.specs.Count.{size}
use Rattle.clique.specs.LentRules.{edge_fits}
use Rattle.clique.proofs.Gathered.{GatheredTo}
use Rattle.clique.proofs.candidates.Allowed.candidates.Given as goal

abbrev pub invariant-loop-v : goal.invariant-loop-v
invariant-loop-v l = GatheredTo l.initial.rest (λ v. all_below l.row.0 (edge_fits l.self.problem l.path l.row.0 v)) l.rest l.fitting

abbrev pub decreases-loop-v : goal.decreases-loop-v
decreases-loop-v l = size l.rest
