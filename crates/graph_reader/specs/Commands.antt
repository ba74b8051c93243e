-- One command of graph bytes, decoded from the front of a list of bytes: 01, "Charts", "Chart bytes are commands of one byte with operands of fixed width",
-- and 02, U6, for edition 2.
use Rattle.std.specs.Prelude.{cond, List, ℕ, leb, eqb, length, get_or}
use Rattle.graph_reader.specs.declared.Edition.{Edition}
use Rattle.graph_reader.specs.declared.commands.Command.{Command}
use Rattle.graph_reader.specs.declared.commands.Command.TheVariants.{Vertex, Edge, End, Truncated, Unknown}
use Rattle.graph_reader.specs.Editions.{vertex_code, vertex_width, vertex_label}

-- "1, kind: the next part", or 3 and a kind of two bytes; "2, a, b, kind: a link between parts already given, either number first"; "0: end".
-- No byte at all, or too few operands, is Truncated; any other first byte is Unknown, with or without bytes after it.
abbrev pub decode : Edition → List ℕ → Command
decode edition bytes =
    cond (eqb (length bytes) 0) Truncated
    (cond (eqb (get_or bytes 0 0) 0) End
    (cond (eqb (get_or bytes 0 0) (vertex_code edition)) (cond (leb (vertex_width edition) (length bytes)) (Vertex (vertex_label edition bytes)) Truncated)
    (cond (eqb (get_or bytes 0 0) 2) (cond (leb 4 (length bytes)) (Edge (get_or bytes 1 0) (get_or bytes 2 0) (get_or bytes 3 0)) Truncated)
    Unknown)))

-- how many bytes a whole command takes
abbrev pub width : Edition → Command → ℕ
width edition (Vertex label) = vertex_width edition
width edition (Edge a b label) = 4
width edition End = 1
width edition Truncated = 0
width edition Unknown = 0
