-- The tests that find a graph sound, in 01's order: 10 for the tables, 11 for the labels, 12 for the edges (01, "Refusals by place of checking").
use Rattle.std.specs.Prelude.{Bool, not, cond, ◌&&◌, ◌||◌, List, ℕ, max, leb, ltb, eqb, length, get_or}
use Rattle.bounded.specs.Below.{all_below}
use Rattle.answers.specs.Answer.{Answer, passed, refused}
use Rattle.graph.specs.Graph.{Graph, place, max_label}

-- 10: "lengths not 64 and 4,096, or n above 64"
abbrev pub tables_fit : ℕ → List ℕ → List ℕ → Bool
tables_fit order labels edges = eqb (length labels) 64 && eqb (length edges) 4096 && leb order 64

-- 11: "the first n kinds are 1 to" 65,535 "and the others 0" (02, U6)
abbrev pub label_sound : ℕ → List ℕ → ℕ → Bool
label_sound order labels v =
    cond (ltb v order) (leb 1 (get_or labels v 0) && leb (get_or labels v 0) max_label) (eqb (get_or labels v 0) 0)

unfoldable pub labels_sound : ℕ → List ℕ → Bool
labels_sound order labels = all_below 64 (label_sound order labels)

-- 12: "links are the same both ways, .. and links of numbers n or above are 0"; since 02, U4, "12 allows the diagonal"
abbrev pub edge_sound : ℕ → List ℕ → ℕ → ℕ → Bool
edge_sound order edges a b =
    leb (get_or edges (place a b) 0) 255
    && eqb (get_or edges (place a b) 0) (get_or edges (place b a) 0)
    && (eqb (get_or edges (place a b) 0) 0 || not (leb order (max a b)))

unfoldable pub row_sound : ℕ → List ℕ → ℕ → Bool
row_sound order edges a = all_below 64 (edge_sound order edges a)

unfoldable pub edges_sound : ℕ → List ℕ → Bool
edges_sound order edges = all_below 64 (row_sound order edges)

unfoldable pub soundness : Graph → Answer
soundness g =
    cond (tables_fit g.order g.labels g.edges)
    (cond (labels_sound g.order g.labels)
    (cond (edges_sound g.order g.edges) passed (refused 12))
    (refused 11))
    (refused 10)
