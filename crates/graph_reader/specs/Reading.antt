-- Reading graph bytes: each command judged in 01's order, the earliest at fault giving number and place, and both tables at the end
-- (01, "Charts" and "Refusals by place of checking"; 02, U6, for the two editions). The bytes are of the edition `from`, and the graph is to fit the edition
-- `to`, which is the same where a file is read alone, and the one that is written where it is moved.
use Rattle.std.specs.Prelude.{◌≡◌, cond, ◌&&◌, Option, Some, None, Result, Ok, Err, List, ℕ, zero, suc, ◌+◌, max, leb, eqb, length, get_or, drop, set, replicate}
use Rattle.answers.specs.Answer.{Answer, passed, accepted, refused, refused_at, when_passed}
use Rattle.graph.specs.Graph.{Graph, graph, place, edge, empty_graph}
use Rattle.graph_reader.specs.declared.Edition.{Edition}
use Rattle.graph_reader.specs.declared.Edition.TheVariants.{One, Two}
use Rattle.graph_reader.specs.declared.commands.Command.{Command}
use Rattle.graph_reader.specs.declared.commands.Command.TheVariants.{Vertex, Edge, End, Truncated, Unknown}
use Rattle.graph_reader.specs.declared.Fault.{Fault}
use Rattle.graph_reader.specs.declared.ReadError.{ReadError}
use Rattle.graph_reader.specs.Answers.{fault_number, read_answer}
use Rattle.graph_reader.specs.Commands.{decode, width}
use Rattle.graph_reader.specs.Editions.{opening_width, greatest_label}

abbrev pub with_vertex : Graph → ℕ → Graph
with_vertex g label = graph (g.order + 1) (set g.labels g.order label) g.edges

abbrev pub with_edge : Graph → ℕ → ℕ → ℕ → Graph
with_edge g a b label = graph g.order g.labels (set (set g.edges (place a b) label) (place b a) label)

-- one command, judged against the graph of the commands before it
pub data Verdict : Type 0 where
  -- it stands, and makes this graph
  grows : Graph → Verdict
  ends : Verdict
  -- 01's number
  faulty : ℕ → Verdict

-- 1, 2; "3 kind 0; 4 a 65th"; "5 part not yet given; .. 7 kind 0; 8 pair linked already"; since 02, U4, "Number 6 never occurs now"; 02, U6: "28 a kind
-- above 255 on the way back, with its part command's place, after 3 and 4"
unfoldable pub judge : Edition → Graph → Command → Verdict
judge to g Truncated = faulty 1
judge to g Unknown = faulty 2
judge to g (Vertex label) =
    cond (eqb label 0) (faulty 3)
    (cond (leb 64 g.order) (faulty 4) (cond (leb label (greatest_label to)) (grows (with_vertex g label)) (faulty 28)))
judge to g (Edge a b label) =
    cond (leb g.order (max a b)) (faulty 5)
    (cond (eqb label 0) (faulty 7) (cond (eqb (edge g a b) 0) (grows (with_edge g a b label)) (faulty 8)))
judge to g End = ends

-- the graph after a command: unchanged unless the command stands
abbrev pub after : Graph → Verdict → Graph
after g (grows g') = g'
after g ends = g
after g (faulty number) = g

-- what the code's step says, with the tables it leaves: the order of the graph it made, or none at the end, or a fault
abbrev pub verdict_of : Result (Option ℕ) Fault → List ℕ → List ℕ → Verdict
verdict_of (Ok (Some order)) labels edges = grows (graph order labels edges)
verdict_of (Ok None) labels edges = ends
verdict_of (Err fault) labels edges = faulty (fault_number fault)

-- what the code's step, with both tables it leaves, tells of the command c on the graph g: its verdict, and the graph after it
pub record Applied (to : Edition) (g : Graph) (c : Command) (step : Result (Option ℕ) Fault) (labels edges : List ℕ) : Type 0 where
  pub verdict : verdict_of step labels edges ≡ judge to g c
  pub labels_after : labels ≡ (after g (judge to g c)).labels
  pub edges_after : edges ≡ (after g (judge to g c)).edges

-- the answer, and both tables afterwards
pub record Reading : Type 0 where
  pub answer : Answer
  pub labels : List ℕ
  pub edges : List ℕ

abbrev pub reading_of : Result ℕ ReadError → List ℕ → List ℕ → Reading
reading_of r labels edges = record { answer = read_answer r; labels = labels; edges = edges }

-- "Refused reading leaves both tables all 0"
abbrev pub refuse : Answer → Reading
refuse refusal = record { answer = refusal; labels = replicate 64 0; edges = replicate 4096 0 }

abbrev pub refuse_at : ℕ → ℕ → Reading
refuse_at number at = refuse (refused_at number at)

-- the graph, accepted
abbrev pub read_all : Graph → Reading
read_all g = record { answer = accepted g.order; labels = g.labels; edges = g.edges }

-- after the end: "9 more bytes", at the first of them
abbrev pub finish : Graph → ℕ → List ℕ → Reading
finish g at rest =
    cond (eqb (length rest) 0) (read_all g) (refuse_at 9 at)

abbrev pub on_verdict : (Graph → Reading) → Reading → (ℕ → Reading) → Verdict → Reading
on_verdict f e r (grows g) = f g
on_verdict f e r ends = e
on_verdict f e r (faulty number) = r number

-- "After each command the rest of the bytes is read as a stretch of its own." `rest` begins at the place `at`. Each command takes a byte at
-- least, so fuel above the length of `rest` never runs out.
unfoldable pub read_from : Edition → Edition → ℕ → Graph → ℕ → List ℕ → Reading
read_from from to zero g at rest = refuse_at 1 at
read_from from to (suc fuel) g at rest =
    on_verdict
    (λ g'. read_from from to fuel g' (at + width from (decode from rest)) (drop (width from (decode from rest)) rest))
    (finish g (at + 1) (drop 1 rest))
    (λ number. refuse_at number at)
    (judge to g (decode from rest))

-- all commands of `rest`, with the graph of those before them
unfoldable pub read_at : Edition → Edition → Graph → ℕ → List ℕ → Reading
read_at from to g at rest = read_from from to (length rest + 1) g at rest

-- 02, U6: "27 file doesn't begin with 4, 2, with place 0, before other commands"; "An empty file or a cut edition command is still 1"
unfoldable pub opens : Edition → List ℕ → Answer
opens One bytes = passed
opens Two bytes =
    cond (eqb (length bytes) 0) (refused_at 1 0)
    (cond (eqb (get_or bytes 0 0) 4)
    (cond (leb 2 (length bytes)) (cond (eqb (get_or bytes 1 0) 2) passed (refused_at 27 0)) (refused_at 1 0))
    (refused_at 27 0))

-- a whole file, into tables that are all 0
unfoldable pub read_file : Edition → Edition → List ℕ → Reading
read_file from to bytes =
    when_passed (opens from bytes) (read_at from to empty_graph (opening_width from) (drop (opening_width from) bytes)) refuse

-- all of it: 10 comes first and leaves the tables untouched
unfoldable pub reading_edition : Edition → Edition → List ℕ → List ℕ → List ℕ → Reading
reading_edition from to labels edges bytes =
    cond (eqb (length labels) 64 && eqb (length edges) 4096)
    (read_file from to bytes)
    (record { answer = refused 10; labels = labels; edges = edges })

-- 02, U6: "Reading, writing and round trips now are about edition 2"
unfoldable pub reading : List ℕ → List ℕ → List ℕ → Reading
reading labels edges bytes = reading_edition Two Two labels edges bytes

-- into tables that are all 0
abbrev pub read_graph : List ℕ → Reading
read_graph bytes = reading (replicate 64 0) (replicate 4096 0) bytes
