-- How many bytes a graph is written in: those before the edges, 4 × links, and 1; for up to 64 vertices at most 8,449 in edition 1 and 8,515 in edition 2.
use mathlib.Core.Path.{◌≡◌, refl, ◌∙◌}
use mathlib.Core.Bool.{Bool, true, false, cond, not}
use mathlib.Core.List.{[], ◌∷◌, ◌++◌}
use Prim.Native.Nat.{ℕ, ◌+◌, ◌*◌, ◌-◌, ◌≤◌}
use native.Mathlib.Omega.{arith}
use lib.Dec.{eqb}
use lib.ListN.{length, length-append}
use Rattle.bounded.specs.Below.{sum_below, run_below}
use Rattle.bounded.proofs.Below.{length_run_below, sum_below_le, sum_below_more, sum_below_same, sum_below_mul, count_from}
use Rattle.graph.specs.Graph.{Graph, edge}
use Rattle.graph_reader.specs.declared.Edition.{Edition}
use Rattle.graph_reader.specs.declared.Edition.TheVariants.{One, Two}
use Rattle.graph_reader.specs.Editions.{opening, vertex_width}
use Rattle.graph_writer.specs.Writing.{vertex_command, vertex_bytes, front_bytes, front_length, listed, edge_bytes, row_bytes, edition_bytes, longest, row_edge_count, edge_count}

-- An edge takes 4 bytes where it is written, and none elsewhere.
pub length_edge_bytes : (g : Graph) (a b : ℕ) → length (edge_bytes g a b) ≡ 4 * cond (listed g a b) 1 0
length_edge_bytes g a b = go (listed g a b)
  where
    go : (t : Bool) → length (cond t (2 ∷ a ∷ b ∷ edge g a b ∷ []) []) ≡ 4 * cond t 1 0
    go true = refl
    go false = refl

-- A row takes 4 bytes for each of its edges.
pub length_row_bytes : (g : Graph) (a : ℕ) → length (row_bytes g a) ≡ 4 * row_edge_count g a
unfolding row_bytes
length_row_bytes g a = simp (length_run_below, length_edge_bytes, sum_below_mul)

-- A vertex takes as many bytes as its command has.
pub length_vertex : (edition : Edition) (label : ℕ) → length (vertex_command edition label) ≡ vertex_width edition
length_vertex One label = refl
length_vertex Two label = refl

-- The opening and all vertices.
pub length_front : (edition : Edition) (g : Graph) → length (front_bytes edition g) ≡ front_length edition g.order
length_front edition g = omega (arith, length-append (opening edition) (run_below g.order (vertex_bytes edition g)), each edition)
  where
    each : (e : Edition) → length (run_below g.order (vertex_bytes e g)) ≡ vertex_width e * g.order
    each One = length_run_below g.order (vertex_bytes One g) ∙ sum_below_same g.order 2
    each Two = length_run_below g.order (vertex_bytes Two g) ∙ sum_below_same g.order 3

-- Up to 64 vertices take what the longest file has before its edges, at most.
pub front_max : (edition : Edition) (n : ℕ) → n ≤ 64 → front_length edition n + 8321 ≤ longest edition
front_max One n h = omega arith
front_max Two n h = omega arith

pub longest_max : (edition : Edition) → longest edition ≤ 8515
longest_max One = omega arith
longest_max Two = omega arith

-- All rows take 4 bytes for each edge of the graph.
pub length_rows : (g : Graph) → length (run_below g.order (row_bytes g)) ≡ 4 * edge_count g
unfolding edge_count
length_rows g = simp (length_run_below, length_row_bytes, sum_below_mul)

-- All of it.
pub length_edition_bytes : (edition : Edition) (g : Graph) → length (edition_bytes edition g) ≡ front_length edition g.order + 4 * edge_count g + 1
unfolding edition_bytes
length_edition_bytes edition g = omega (
  arith,
  length-append (front_bytes edition g ++ run_below g.order (row_bytes g)) (0 ∷ []),
  length-append (front_bytes edition g) (run_below g.order (row_bytes g)),
  length_front edition g,
  length_rows g,
)

-- Row a has at most as many edges as there are vertices from a on.
pub row_edge_count_max : (g : Graph) (a : ℕ) → row_edge_count g a ≤ g.order - a
row_edge_count_max g a = count_from g.order a (λ b. not (eqb (edge g a b) 0))

-- Up to 64 vertices have at most 2,080 links, one for each pair a ≤ b.
pub edge_count_max : (g : Graph) → g.order ≤ 64 → edge_count g ≤ 2080
unfolding edge_count sum_below
edge_count_max g h =
    let rows = sum_below_le g.order (row_edge_count g) (λ a. 64 - a) (λ a l. omega (arith, row_edge_count_max g a)) in
    let more = sum_below_more g.order 64 (λ a. 64 - a) h in
    let total : sum_below 64 (λ a. 64 - a) ≡ 2080 = refl in
    omega arith

-- The written bytes of up to 64 vertices number at most 8,449 in edition 1, and 8,515 in edition 2.
pub length_max : (edition : Edition) (g : Graph) → g.order ≤ 64 → length (edition_bytes edition g) ≤ longest edition
length_max edition g h = omega (arith, length_edition_bytes edition g, edge_count_max g h, front_max edition g.order h)
