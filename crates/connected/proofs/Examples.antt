-- Small mappings, tested by `is_connected`: what hangs together, by edges among the mapped vertices alone, and what does not.
use mathlib.Core.Path.{◌≡◌, refl}
use mathlib.Core.Bool.{true, false}
use mathlib.Core.List.{List, [], ◌∷◌}
use Prim.Native.Nat.{ℕ}
use lib.ListN.{set, replicate}
use Rattle.bitset.specs.Members.{member, set_of}
use Rattle.bitset.specs.Least.{least_below}
use Rattle.graph.specs.Graph.{place}
use Rattle.connected.specs.Spreading.{spreads, connected_set, is_connected}

abbrev no_edges : List ℕ
no_edges = replicate 4096 0

-- one more edge
abbrev edge : ℕ → ℕ → ℕ → List ℕ → List ℕ
edge a b label edges = set (set edges (place a b) label) (place b a) label

pub small :
    -- nothing mapped, and one vertex
    (is_connected no_edges [] ≡ true)
    × (is_connected (edge 0 1 1 no_edges) (255 ∷ 255 ∷ 255 ∷ []) ≡ true)
    × (is_connected (edge 0 1 1 no_edges) (0 ∷ 255 ∷ 255 ∷ []) ≡ true)
unfolding connected_set spreads set_of member least_below
small = (refl, refl, refl)

pub one_edge :
    -- the edge joins 0 and 1, and nothing joins 2
    (is_connected (edge 0 1 1 no_edges) (0 ∷ 1 ∷ 255 ∷ []) ≡ true)
    × (is_connected (edge 0 1 1 no_edges) (0 ∷ 1 ∷ 2 ∷ []) ≡ false)
    × (is_connected (edge 0 1 1 no_edges) (255 ∷ 1 ∷ 2 ∷ []) ≡ false)
    × (is_connected (edge 0 1 1 no_edges) (0 ∷ 255 ∷ 2 ∷ []) ≡ false)
unfolding connected_set spreads set_of member least_below
one_edge = (refl, refl, refl, refl)

pub two_edges :
    -- 0 and 2 hang together by 1, of the same label or not, but not where 1 is left out
    (is_connected (edge 1 2 1 (edge 0 1 1 no_edges)) (0 ∷ 1 ∷ 2 ∷ []) ≡ true)
    × (is_connected (edge 1 2 9 (edge 0 1 1 no_edges)) (0 ∷ 1 ∷ 2 ∷ []) ≡ true)
    × (is_connected (edge 1 2 1 (edge 0 1 1 no_edges)) (0 ∷ 255 ∷ 2 ∷ []) ≡ false)
unfolding connected_set spreads set_of member least_below
two_edges = (refl, refl, refl)

pub own_edges :
    -- an edge of a vertex with itself joins nothing
    is_connected (edge 1 1 1 (edge 0 0 1 no_edges)) (0 ∷ 1 ∷ []) ≡ false
unfolding connected_set spreads set_of member least_below
own_edges = refl
