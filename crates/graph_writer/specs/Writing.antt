-- The bytes of a graph, and writing them into a lent buffer: 01, "Charts", "The writer gives all parts, then the links with a < b by rising a,
-- then rising b, then the end", and the row "Output" of the refusals; since 02, U4, "The writer takes a ≤ b"; since 02, U6, in either edition.
use Rattle.std.specs.Prelude.{Bool, cond, not, ◌&&◌, Option, Result, List, [], ◌∷◌, ◌++◌, ℕ, ◌+◌, ◌*◌, ◌/◌, ◌%◌, leb, eqb}
use Rattle.bounded.specs.Below.{sum_below, run_below}
use Rattle.answers.specs.Output.{Writing, write_if}
use Rattle.graph.specs.Graph.{Graph, label, edge}
use Rattle.graph.specs.Soundness.{soundness}
use Rattle.graph_reader.specs.declared.Edition.{Edition}
use Rattle.graph_reader.specs.declared.Edition.TheVariants.{One, Two}
use Rattle.graph_reader.specs.Editions.{opening, opening_width, vertex_width}
use Rattle.graph_writer.specs.declared.WriteError.{WriteError}
use Rattle.graph_writer.specs.Answers.{write_answer, filled_answer}

-- the command of a vertex with this label: "1, kind", or "3 and a two-byte kind, low first" (02, U6)
abbrev pub vertex_command : Edition → ℕ → List ℕ
vertex_command One x = 1 ∷ x ∷ []
vertex_command Two x = 3 ∷ x % 256 ∷ x / 256 ∷ []

abbrev pub vertex_bytes : Edition → Graph → ℕ → List ℕ
vertex_bytes edition g v = vertex_command edition (label g v)

-- the bytes before the edges: the edition's opening, and all vertices
abbrev pub front_bytes : Edition → Graph → List ℕ
front_bytes edition g = opening edition ++ run_below g.order (vertex_bytes edition g)

-- how many these are, for n vertices
abbrev pub front_length : Edition → ℕ → ℕ
front_length edition n = opening_width edition + vertex_width edition * n

-- 02, U4: "The writer takes a ≤ b"
abbrev pub listed : Graph → ℕ → ℕ → Bool
listed g a b = leb a b && not (eqb (edge g a b) 0)

abbrev pub edge_bytes : Graph → ℕ → ℕ → List ℕ
edge_bytes g a b = cond (listed g a b) (2 ∷ a ∷ b ∷ edge g a b ∷ []) []

unfoldable pub row_bytes : Graph → ℕ → List ℕ
row_bytes g a = run_below g.order (edge_bytes g a)

unfoldable pub edition_bytes : Edition → Graph → List ℕ
edition_bytes edition g = front_bytes edition g ++ run_below g.order (row_bytes g) ++ (0 ∷ [])

-- how many bytes a file has at most: 02, U4, "at most 8,449 bytes", and U6, "at most 8,515 bytes"
abbrev pub longest : Edition → ℕ
longest One = 8449
longest Two = 8515

-- 02, U6: "Reading, writing and round trips now are about edition 2"
abbrev pub graph_bytes : Graph → List ℕ
graph_bytes g = edition_bytes Two g

abbrev pub row_edge_count : Graph → ℕ → ℕ
row_edge_count g a = sum_below g.order (λ b. cond (listed g a b) 1 0)

-- how many edges the graph has, each counted once, at a ≤ b
unfoldable pub edge_count : Graph → ℕ
edge_count g = sum_below g.order (row_edge_count g)

abbrev pub writing_of : Result ℕ WriteError → List ℕ → Writing
writing_of r buffer = record { answer = write_answer r; buffer = buffer }

abbrev pub filled_of : Option ℕ → List ℕ → Writing
filled_of r buffer = record { answer = filled_answer r; buffer = buffer }

-- all of it: 10, 11 and 12 come before 13, and a refusal changes nothing
unfoldable pub writing : Graph → List ℕ → Writing
writing g buffer = write_if (soundness g) (graph_bytes g) buffer
