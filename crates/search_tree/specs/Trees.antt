-- The walk's tree and its states as branch and bound sees them, the nodes that the walk can reach, and a path filled up to a mapping
-- (01, "The walk").
use Rattle.std.specs.Prelude.{◌≡◌, ◌⊎◌, true, cond, List, [], ◌++◌, ℕ, ◌-◌, ◌≤◌, ◌<◌, length, get_or, take, replicate}
use Rattle.branch_bound.specs.Tree.{Tree}
use Rattle.branch_bound.specs.Search as BranchBound
use Rattle.mapping.specs.Common.{unmapped, size}
use Rattle.search_tree.specs.Rules.{Rules}
use Rattle.search_tree.specs.Search.{Search}
use Rattle.search_tree.specs.Node.{candidate, upper_bound, is_last, children, open_nodes}
use Rattle.search_tree.specs.Walk.{State}

abbrev pub tree : Search → Tree
tree S =
    record {
      Node = List ℕ;
      children = children S.rules;
      last = is_last S.rules;
      bound = upper_bound S.rules;
      size = size;
      admits = S.admits;
    }

-- the walk's state as branch and bound sees it: the open nodes, none once finished, and the incumbent
abbrev pub open_state : (S : Search) → State → BranchBound.State (tree S)
open_state S s = BranchBound.state (tree S) (cond s.finished [] (open_nodes S.rules s.path)) s.incumbent

-- 01's shape of a path: it is at most n long, and "each path byte is a candidate of its row or 255"
pub record Reached (R : Rules) (path : List ℕ) : Type 0 where
  pub depth : length path ≤ R.rows
  pub entry : (k : ℕ) → k < length path → (get_or path k 0 ≡ unmapped) ⊎ (candidate R (take k path) k (get_or path k 0) ≡ true)

-- the path with every undecided row left out
abbrev pub filled : Rules → List ℕ → List ℕ
filled R path = path ++ replicate (R.rows - length path) unmapped
