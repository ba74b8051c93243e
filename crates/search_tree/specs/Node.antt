-- A node of the search tree: its candidates, its upper bound, its children, and the open nodes when it is next (01, "The walk", first
-- and third paragraph). "A node decides old parts 0 to d - 1 by a path of d bytes."
use Rattle.std.specs.Prelude.{Bool, true, false, cond, ◌&&◌, ◌||◌, List, [], ◌∷◌, ◌++◌, map, ℕ, zero, suc, ◌+◌, leb, ltb, eqb, length, get_or, take}
use Rattle.bounded.specs.Below.{all_below, sum_below, run_below}
use Rattle.mapping.specs.Common.{unmapped, size}
use Rattle.search_tree.specs.Rules.{Rules}

-- row r may take v beside the decided row i
abbrev pub fits : Rules → List ℕ → ℕ → ℕ → ℕ → Bool
fits R path r v i = eqb (get_or path i 0) unmapped || R.consistent i (get_or path i 0) r v

-- "new parts of its kind, not used on the path, whose link to each partner on the path equals the row's link to that old part"; since 02, U1 and U4, instead of
-- "of its kind": that the row may lie on
unfoldable pub candidate : Rules → List ℕ → ℕ → ℕ → Bool
candidate R path r v = ltb v R.values && R.allowed r v && all_below (length path) (fits R path r v)

abbrev pub list_if : Bool → ℕ → List ℕ
list_if true v = v ∷ []
list_if false v = []

-- the candidate set of a row, rising
unfoldable pub candidates : Rules → List ℕ → ℕ → List ℕ
candidates R path r = run_below R.values (λ v. list_if (candidate R path r v) v)

abbrev pub non_empty : List ℕ → Bool
non_empty [] = false
non_empty (v ∷ vs) = true

-- 01: hope. "pairs on the path + undecided rows whose set is not empty"
unfoldable pub upper_bound : Rules → List ℕ → ℕ
upper_bound R path =
    size path + sum_below R.rows (λ r. cond (leb (length path) r && non_empty (candidates R path r)) 1 0)

-- what row d may take: "each candidate, rising, then 255"
unfoldable pub choices : Rules → List ℕ → List ℕ
choices R path = candidates R path (length path) ++ (unmapped ∷ [])

abbrev pub extend : List ℕ → ℕ → List ℕ
extend path v = path ++ (v ∷ [])

-- at d = n
abbrev pub is_last : Rules → List ℕ → Bool
is_last R path = leb R.rows (length path)

unfoldable pub children : Rules → List ℕ → List (List ℕ)
children R path = cond (is_last R path) [] (map (extend path) (choices R path))

-- the choices after w: greater candidates, then 255, which is above every candidate
unfoldable pub choices_after : Rules → List ℕ → ℕ → List ℕ
choices_after R path w = run_below R.values (λ v. list_if (ltb w v && candidate R path (length path) v) v) ++ list_if (ltb w unmapped) unmapped

-- the later siblings of the path's first k entries, of its first k - 1, and so on: the nearest first
unfoldable pub later_siblings : Rules → List ℕ → ℕ → List (List ℕ)
later_siblings R path zero = []
later_siblings R path (suc k) = map (extend (take k path)) (choices_after R (take k path) (get_or path k 0)) ++ later_siblings R path k

-- 01: pending nodes. "the next node, its later siblings, and the later siblings of its ancestors"
unfoldable pub open_nodes : Rules → List ℕ → List (List ℕ)
open_nodes R path = path ∷ later_siblings R path (length path)
