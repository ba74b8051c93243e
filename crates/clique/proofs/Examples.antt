-- Clique branching on 01's marked examples and three of 02, with a list (U1) and where the largest mapping is not connected, computed.
use mathlib.Core.Path.{◌≡◌, refl}
use mathlib.Core.List.{[], ◌∷◌}
use mathlib.Core.Option.{none, some}
use Rattle.bounded.specs.Below.{all_below, some_below, run_below}
use Rattle.graph_reader.specs.Reading.{reading, reading_edition, read_file, opens, read_at, read_from, judge}
use Rattle.substitutes.specs.Substitutes.{listed, agree}
use Rattle.problem.specs.Problem.{allowed, consistent}
use Rattle.problem_reader.proofs.MarkedGraphs.{between, pair, empty, one, two, linked, unlinked, loose, listing}
use Rattle.mapping.specs.Common.{mapped_from}
use Rattle.search_tree.specs.Node.{candidate, candidates, choices}
use Rattle.clique.specs.Branching.{keep_larger, branch_row, branch}

pub marked_examples :
    -- P, floor 1: 1 0 255
    (branch pair 1 ≡ some (1 ∷ 0 ∷ 255 ∷ []))
    -- P, floor 3: none
    × (branch pair 3 ≡ none)
    -- P, floor 255: none
    × (branch pair 255 ≡ none)
    -- both empty, floor 0: size 0
    × (branch (between empty empty) 0 ≡ some [])
    -- both empty, floor 1: none
    × (branch (between empty empty) 1 ≡ none)
    -- one part of kind 7 against two of kind 7, unlinked, floor 0: 0, and not the later 1
    × (branch (between one two) 0 ≡ some (0 ∷ []))
    -- 7, 9 linked by 1 against 7, 9 unlinked, floor 0: 0 255
    × (branch (between linked unlinked) 0 ≡ some (0 ∷ 255 ∷ []))
    -- 7 7 7 with a link of the first two against itself, floor 0: 0 1 2
    × (branch (between loose loose) 0 ≡ some (0 ∷ 1 ∷ 2 ∷ []))
    -- 7 against 9, list 7 0 9 0: 0
    × (branch (listing (7 ∷ 0 ∷ 9 ∷ 0 ∷ [])) 0 ≡ some (0 ∷ []))
    -- 7 against 9, list 9 0 7 0: left out, as a pair is read old then new
    × (branch (listing (9 ∷ 0 ∷ 7 ∷ 0 ∷ [])) 0 ≡ some (255 ∷ []))
unfolding reading reading_edition read_file opens read_at read_from judge all_below some_below run_below listed agree allowed consistent mapped_from candidate candidates choices keep_larger branch_row
marked_examples = (refl, refl, refl, refl, refl, refl, refl, refl, refl, refl)
