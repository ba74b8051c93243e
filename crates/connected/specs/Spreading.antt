-- Whether the mapped old vertices hang together, as a test that computes, on sets of vertices as words (02, U7).
use Rattle.std.specs.Prelude.{◌≡◌, Bool, false, not, ◌&&◌, ◌||◌, List, ℕ, zero, suc, ◌<◌, eqb, ltb, length, get_or, Option, Some, None}
use Rattle.bitset.specs.Members.{set_of, meet_of, union_of, difference_of}
use Rattle.bitset.specs.Least.{least_member, without_least}
use Rattle.graph.specs.Graph.{place}
use Rattle.mapping.specs.Common.{unmapped}

-- the edges table has an edge of v and u, which differ
abbrev pub adjacent : List ℕ → ℕ → ℕ → Bool
adjacent edges v u = not (eqb u v) && not (eqb (get_or edges (place v u) 0) 0)

abbrev pub neighbours : List ℕ → ℕ → ℕ
neighbours edges v = set_of 64 (adjacent edges v)

abbrev pub is_mapped : List ℕ → ℕ → Bool
is_mapped l v = ltb v (length l) && not (eqb (get_or l v 0) unmapped)

abbrev pub mapped_set : List ℕ → ℕ
mapped_set l = set_of 64 (is_mapped l)

-- false where none is found
abbrev pub on_found : (ℕ → Bool) → Option ℕ → Bool
on_found f (Some v) = f v
on_found f None = false

-- The front spreads over all of the rest, in at most k rounds: each takes a vertex out of the front, and its neighbours out of the rest into the front.
unfoldable pub spreads : (ℕ → ℕ) → ℕ → ℕ → ℕ → Bool
spreads near zero front rest = eqb rest 0
spreads near (suc k) front rest =
    eqb rest 0
    || on_found (λ v. let met = meet_of rest (near v) in spreads near k (union_of (without_least front) met) (difference_of rest met)) (least_member front)

-- the least vertex of a set spreads over all others of it; each of the 64 is taken out of the front once at most
unfoldable pub connected_set : (ℕ → ℕ) → ℕ → Bool
connected_set near set = let rest = without_least set in spreads near 64 (difference_of set rest) rest

abbrev pub is_connected : List ℕ → List ℕ → Bool
is_connected edges l = connected_set (neighbours edges) (mapped_set l)

-- the neighbours of each vertex, as the code keeps them
pub record Neighbours (edges words : List ℕ) : Type 0 where
  pub entries : length words ≡ 64
  pub word : (v : ℕ) → v < 64 → get_or words v 0 ≡ neighbours edges v
