-- A graph in two tables, and when it is sound: 01, "Charts", first and second paragraph, and 02, U4 and U6.
-- 01 calls a graph a chart, a vertex a part, an edge a link and a label a kind.
use Rattle.std.specs.Prelude.{◌≡◌, List, ℕ, ◌+◌, ◌*◌, ◌≤◌, ◌<◌, max, length, get_or, replicate}

pub record Graph : Type 0 where
  -- 01: n
  pub order : ℕ
  -- 01: kind bytes; 02, U6: "part kinds .. as 64 numbers of 16 bits"
  pub labels : List ℕ
  -- 01: link bytes
  pub edges : List ℕ

abbrev pub graph : ℕ → List ℕ → List ℕ → Graph
graph order labels edges = record { order = order; labels = labels; edges = edges }

-- "the link of a and b at 64 × a + b"
abbrev pub place : ℕ → ℕ → ℕ
place a b = 64 * a + b

abbrev pub label : Graph → ℕ → ℕ
label g v = get_or g.labels v 0

-- 0 is the null edge: no link
abbrev pub edge : Graph → ℕ → ℕ → ℕ
edge g a b = get_or g.edges (place a b) 0

-- 02, U6: "Charts hold part kinds 1 to 65,535"
abbrev pub max_label : ℕ
max_label = 65535

-- "A chart is sound when n is at most 64, the first n kinds are 1 to" 65,535 "and the others 0, links are the same both ways, .. and links of
-- numbers n or above are 0." The link of a part with itself is like any other since 02, U4, "12 allows the diagonal". The tables have 64 labels and 4,096 bytes.
pub record Sound (g : Graph) : Type 0 where
  pub labels_length : length g.labels ≡ 64
  pub edges_length : length g.edges ≡ 4096
  pub order_max : g.order ≤ 64
  pub labelled : (v : ℕ) → v < g.order → (1 ≤ label g v) × (label g v ≤ max_label)
  pub unlabelled : (v : ℕ) → g.order ≤ v → v < 64 → label g v ≡ 0
  pub edge_byte : (a b : ℕ) → a < 64 → b < 64 → edge g a b ≤ 255
  pub symmetric : (a b : ℕ) → a < 64 → b < 64 → edge g a b ≡ edge g b a
  pub within : (a b : ℕ) → a < 64 → b < 64 → g.order ≤ max a b → edge g a b ≡ 0

abbrev pub empty_graph : Graph
empty_graph = graph 0 (replicate 64 0) (replicate 4096 0)
