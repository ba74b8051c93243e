-- 02, U4, computed: "in the list check 22 tests the row with itself right after 21, and gives that row twice", before 20 against an earlier row.
use mathlib.Core.Path.{◌≡◌, refl}
use mathlib.Core.List.{List, [], ◌∷◌, ◌++◌}
use Prim.Native.Nat.{ℕ, ◌-◌}
use lib.ListN.{length, set, replicate}
use Rattle.bounded.specs.Below.{some_below}
use Rattle.bounded.specs.First.{first_below}
use Rattle.graph.specs.Graph.{Graph, graph}
use Rattle.substitutes.specs.Substitutes.{listed, agree}
use Rattle.problem.specs.Problem.{problem}
use Rattle.mapping.specs.Common.{mapped_from}
use Rattle.mapping.specs.Answers.{Outcome, accepted, refused_row, refused_rows}
use Rattle.mapping.specs.Check.{row_fault, list_outcome}

-- vertices with these labels, where 0 and 1 have these edges with themselves
abbrev own : List ℕ → ℕ → ℕ → Graph
own labels a b = graph (length labels) (labels ++ replicate (64 - length labels) 0) (set (set (replicate 4096 0) 0 a) 65 b)

abbrev check : Graph → Graph → List ℕ → Outcome
check old new l = list_outcome (problem old new) l

pub own_edges :
    -- an own edge in one of the graphs only, either way round, and of another label
    (check (own (7 ∷ []) 1 0) (own (7 ∷ []) 0 0) (0 ∷ []) ≡ refused_rows 22 0 0)
    × (check (own (7 ∷ []) 0 0) (own (7 ∷ []) 1 0) (0 ∷ []) ≡ refused_rows 22 0 0)
    × (check (own (7 ∷ []) 1 0) (own (7 ∷ []) 2 0) (0 ∷ []) ≡ refused_rows 22 0 0)
    -- the same in both
    × (check (own (7 ∷ []) 1 0) (own (7 ∷ []) 1 0) (0 ∷ []) ≡ accepted 1)
    -- labels come first
    × (check (own (7 ∷ []) 1 0) (own (9 ∷ []) 0 0) (0 ∷ []) ≡ refused_row 21 0)
    -- both rows on 0: where the second's own edge differs its 22 is told, and 20 where all own edges are equal
    × (check (own (7 ∷ 7 ∷ []) 0 1) (own (7 ∷ []) 0 0) (0 ∷ 0 ∷ []) ≡ refused_rows 22 1 1)
    × (check (own (7 ∷ 7 ∷ []) 1 1) (own (7 ∷ []) 1 0) (0 ∷ 0 ∷ []) ≡ refused_rows 20 1 0)
unfolding list_outcome row_fault first_below agree listed some_below mapped_from
own_edges = (refl, refl, refl, refl, refl, refl, refl)
