-- The ceiling of a state: 01, "The walk", "Fence = the greater of the target and 1 + the greatest hope of a pending node; finished, it is the target".
use Rattle.std.specs.Prelude.{cond, List, [], ◌∷◌, ℕ, ◌+◌, max}
use Rattle.search_tree.specs.Rules.{Rules}
use Rattle.search_tree.specs.Node.{upper_bound, open_nodes}
use Rattle.search_tree.specs.Walk.{State, cutoff}

-- 1 + the greatest upper bound of the nodes, 0 if there are none
unfoldable pub top_bound : Rules → List (List ℕ) → ℕ
top_bound R [] = 0
top_bound R (path ∷ rest) = max (1 + upper_bound R path) (top_bound R rest)

unfoldable pub ceiling : Rules → ℕ → State → ℕ
ceiling R minimum s =
    cond s.finished (cutoff minimum s.incumbent) (max (cutoff minimum s.incumbent) (top_bound R (open_nodes R s.path)))
