-- The descent on small graphs, computed by the definitions that the contracts cite: 01's pair P, others of its marked examples, and the loose parts of 02, U7.
use mathlib.Core.Path.{◌≡◌, refl}
use mathlib.Core.List.{List, [], ◌∷◌}
use mathlib.Core.Option.{Option, none, some}
use mathlib.Core.Bool.{true, false}
use Prim.Native.Nat.{ℕ}
use Rattle.bitset.specs.Members.{member, set_of}
use Rattle.bitset.specs.Count.{count_below}
use Rattle.bitset.specs.Least.{least_below}
use Rattle.bounded.specs.Below.{all_below, some_below, sum_below, run_below}
use Rattle.substitutes.specs.Substitutes.{listed, agree}
use Rattle.graph_reader.specs.Reading.{reading, reading_edition, read_file, opens, read_at, read_from, judge}
use Rattle.problem.specs.Problem.{Problem, allowed, consistent}
use Rattle.mapping.specs.Common.{mapped_from}
use Rattle.problem_reader.proofs.MarkedGraphs.{between, pair, empty, linked, unlinked, loose}
use Rattle.connected.specs.Spreading.{spreads, connected_set}
use Rattle.search_tree.specs.Rules.{rules_of}
use Rattle.search_tree.specs.Search.{search_of}
use Rattle.search_tree.specs.Node.{candidate, candidates, upper_bound, choices, children, choices_after, later_siblings, open_nodes}
use Rattle.search_tree.specs.Walk.{visit_path, visit}
use Rattle.search_tree.specs.Ceiling.{top_bound, ceiling}
use Rattle.descend.specs.Descent.{fresh_at, start_of, renewed, descents, made, descent_ceiling, descent_after}

abbrev visits_made : Problem → ℕ → ℕ → ℕ
visits_made P floor k = made (search_of false P) floor k (fresh_at (start_of (rules_of P) floor))

abbrev ceiling_after : Problem → ℕ → ℕ → ℕ
ceiling_after P floor k = descent_ceiling (rules_of P) (descent_after (search_of false P) floor k)

-- ten visits end the descent: at this minimum, after so many visits of that search and so many in all, with that incumbent and that ceiling
abbrev Ends : Problem → ℕ → ℕ → ℕ → ℕ → Option (List ℕ) → ℕ → Type 0
Ends P floor minimum steps visits incumbent top =
    (descent_after (search_of false P) floor 10 ≡ record { minimum = minimum; state = record { steps = steps; path = []; finished = true; incumbent = incumbent } })
    × (visits_made P floor 10 ≡ visits) × (ceiling_after P floor 10 ≡ top)

pub small_descents :
    -- P, floor 1: from 2, where 1 0 255 is found at once; the ceiling is 3 before any visit
    Ends pair 1 2 6 6 (some (1 ∷ 0 ∷ 255 ∷ [])) 3
    × ((start_of (rules_of pair) 1 ≡ 2) × (ceiling_after pair 1 0 ≡ 3))
    -- P, floor 3: the start is the floor, and nothing is found; floor 255: one visit
    × (Ends pair 3 3 3 3 none 3 × Ends pair 255 255 1 1 none 255)
    -- both empty, floor 0: size 0
    × Ends (between empty empty) 0 0 1 1 (some []) 1
    -- 7, 9 linked by 1 against 7, 9 unlinked, floor 0: three visits from 2 find nothing, and four from 1 find 0 255
    × Ends (between linked unlinked) 0 1 4 7 (some (0 ∷ 255 ∷ [])) 2
    -- after the third the search from 1 has not begun, and the ceiling is down from 3 to 2
    × ((descent_after (search_of false (between linked unlinked)) 0 3 ≡ fresh_at 1) × (ceiling_after (between linked unlinked) 0 0 ≡ 3)
    × (ceiling_after (between linked unlinked) 0 3 ≡ 2))
    -- 7 7 7, of which the first two are linked, against itself: all three; in the connected search 13 visits from 3 find nothing
    × (Ends (between loose loose) 0 3 9 9 (some (0 ∷ 1 ∷ 2 ∷ [])) 4 × (descent_after (search_of true (between loose loose)) 0 13 ≡ fresh_at 2))
unfolding reading reading_edition read_file opens read_at read_from judge all_below some_below sum_below run_below listed agree allowed consistent mapped_from candidate candidates upper_bound choices children choices_after later_siblings open_nodes visit_path visit top_bound ceiling start_of renewed descents made descent_ceiling member set_of count_below least_below spreads connected_set
small_descents = (
  (refl, refl, refl),
  (refl, refl),
  ((refl, refl, refl), (refl, refl, refl)),
  (refl, refl, refl),
  (refl, refl, refl),
  (refl, refl, refl),
  ((refl, refl, refl), refl),
)
