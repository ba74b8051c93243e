-- The two editions of graph bytes, and where they differ: 01, "Charts", "Chart bytes are commands ..", is edition 1; 02, U6, makes edition 2, "its parts are
-- 3 and a two-byte kind, low first; 1 and a later 4 are unknown there".
use Rattle.std.specs.Prelude.{List, [], ◌∷◌, ℕ, ◌≤◌, ◌<◌, length, get_or}
use Rattle.little_endian.specs.LittleEndian.{two_bytes_at}
use Rattle.graph.specs.Graph.{Graph, label, max_label}
use Rattle.graph_reader.specs.declared.Edition.{Edition}
use Rattle.graph_reader.specs.declared.Edition.TheVariants.{One, Two}

-- how a file begins, before its commands: "Edition 2 begins with 4, 2"
abbrev pub opening : Edition → List ℕ
opening One = []
opening Two = 4 ∷ 2 ∷ []

abbrev pub opening_width : Edition → ℕ
opening_width edition = length (opening edition)

-- the first byte of a vertex command, and how many bytes the command takes
abbrev pub vertex_code : Edition → ℕ
vertex_code One = 1
vertex_code Two = 3

abbrev pub vertex_width : Edition → ℕ
vertex_width One = 2
vertex_width Two = 3

-- the label of a vertex command: a byte, or two, "low first"
abbrev pub vertex_label : Edition → List ℕ → ℕ
vertex_label One bytes = get_or bytes 1 0
vertex_label Two bytes = two_bytes_at bytes 1

-- the greatest label that an edition holds
abbrev pub greatest_label : Edition → ℕ
greatest_label One = 255
greatest_label Two = max_label

-- the edition holds each label of the graph: for edition 1, "where every kind fits a byte"
abbrev pub LabelsFit : Edition → Graph → Type 0
LabelsFit edition g = (v : ℕ) → v < g.order → label g v ≤ greatest_label edition
