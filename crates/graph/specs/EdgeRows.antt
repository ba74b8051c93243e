-- The parts of a sound edge table that are tested one by one: in the row of a vertex the edges with earlier vertices and the bytes of numbers n or above
-- (01, "Charts": "links are the same both ways, .. and links of numbers n or above are 0"; 02, U3 and U4).
use Rattle.std.specs.Prelude.{◌≡◌, List, [], ◌∷◌, ℕ, ◌+◌, ◌*◌, ◌≤◌, ◌<◌, get_or}
use Rattle.graph.specs.Graph.{place}

-- each number from one up to another has a property
unfoldable pub Between : (ℕ → Type 0) → ℕ → ℕ → Type 0
Between P from to = (i : ℕ) → from ≤ i → i < to → P i

-- the byte at a place is 0
abbrev pub Null : List ℕ → ℕ → Type 0
Null edges i = get_or edges i 0 ≡ 0

-- the edge of a and b is the same both ways
abbrev pub Same : List ℕ → ℕ → ℕ → Type 0
Same edges a b = get_or edges (place a b) 0 ≡ get_or edges (place b a) 0

-- what is asked of the row of a vertex
abbrev pub VertexRow : ℕ → List ℕ → ℕ → Type 0
VertexRow order edges a = Between (Same edges a) 0 a × Between (Null edges) (place a order) (place a 64)

-- what is asked of the whole table
abbrev pub TableRows : ℕ → List ℕ → Type 0
TableRows order edges = ((a : ℕ) → a < order → VertexRow order edges a) × Between (Null edges) (64 * order) 4096

-- eight bytes of the table, at places one step apart: "join eight into one word"
abbrev pub eight_by : ℕ → List ℕ → ℕ → List ℕ
eight_by step edges from =
    get_or edges from 0
    ∷ get_or edges (from + step) 0
    ∷ get_or edges (from + step * 2) 0
    ∷ get_or edges (from + step * 3) 0
    ∷ get_or edges (from + step * 4) 0
    ∷ get_or edges (from + step * 5) 0
    ∷ get_or edges (from + step * 6) 0
    ∷ get_or edges (from + step * 7) 0
    ∷ []
