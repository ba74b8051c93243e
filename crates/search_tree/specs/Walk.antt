-- The walk: one visit, the state after k visits, and the total (01, "The walk", second and third paragraph, and 02, U7).
use Rattle.std.specs.Prelude.{◌≡◌, Bool, true, false, cond, List, [], ◌∷◌, ℕ, zero, suc, ◌+◌, ◌<◌, ltb, length}
use Rattle.std.proofs.Math.Option.{Option, none, some}
use Rattle.mapping.specs.Common.{size}
use Rattle.search_tree.specs.Rules.{Rules}
use Rattle.search_tree.specs.Search.{Search}
use Rattle.search_tree.specs.Node.{upper_bound, is_last, children, later_siblings}

pub record State : Type 0 where
  -- visits made
  pub steps : ℕ
  -- the next node; [] once finished
  pub path : List ℕ
  pub finished : Bool
  -- the best mapping so far; 01: the held matching
  pub incumbent : Option (List ℕ)

abbrev pub fresh : State
fresh = record { steps = 0; path = []; finished = false; incumbent = none }

-- 01: target. "The target begins as the floor"; once something is held it is "its size + 1"
abbrev pub cutoff : ℕ → Option (List ℕ) → ℕ
cutoff minimum none = minimum
cutoff minimum (some l) = size l + 1

-- the first of these nodes is next; "with none, the search is finished"
abbrev pub go_on : ℕ → Option (List ℕ) → List (List ℕ) → State
go_on steps incumbent [] = record { steps = steps; path = []; finished = true; incumbent = incumbent }
go_on steps incumbent (path ∷ rest) = record { steps = steps; path = path; finished = false; incumbent = incumbent }

-- "the nearest later sibling of the node or of an ancestor"
abbrev pub retreat : Rules → ℕ → List ℕ → Option (List ℕ) → State
retreat R steps path incumbent = go_on steps incumbent (later_siblings R path (length path))

-- "Hope below target: the node is left. Else, at d = n: the path is held as the matching. Else its children follow." 02, U7: "A last node that isn't connected is
-- visited and not held", which `admits` tells.
unfoldable pub visit_path : Search → ℕ → ℕ → List ℕ → Option (List ℕ) → State
visit_path S minimum steps path incumbent =
    cond (ltb (upper_bound S.rules path) (cutoff minimum incumbent)) (retreat S.rules steps path incumbent)
    (cond (is_last S.rules path) (retreat S.rules steps path (cond (S.admits path) (some path) incumbent))
    (go_on steps incumbent (children S.rules path)))

-- "One visit is one step"; a finished search is unchanged
unfoldable pub visit : Search → ℕ → State → State
visit S minimum s = cond s.finished s (visit_path S minimum (s.steps + 1) s.path s.incumbent)

unfoldable pub after : Search → ℕ → ℕ → State
after S minimum zero = fresh
after S minimum (suc k) = visit S minimum (after S minimum k)

-- "The total is the number of visits until then": finished after t visits and after no fewer
pub record IsTotal (S : Search) (minimum t : ℕ) : Type 0 where
  pub ended : (after S minimum t).finished ≡ true
  pub busy : (k : ℕ) → k < t → (after S minimum k).finished ≡ false
