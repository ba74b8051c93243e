-- Graph bytes moved from one edition to the other: 02, U6, "A move reads with the one edition's reader and writes as the other's writer does; refused, it
-- changes no lent memory".
use Rattle.std.specs.Prelude.{Result, List, ℕ}
use Rattle.answers.specs.Answer.{when_accepted}
use Rattle.answers.specs.Output.{Writing, fill}
use Rattle.graph.specs.Graph.{graph}
use Rattle.graph_reader.specs.declared.Edition.{Edition}
use Rattle.graph_reader.specs.Reading.{Reading, read_file}
use Rattle.graph_writer.specs.declared.MoveError.{MoveError}
use Rattle.graph_writer.specs.Answers.{move_answer}
use Rattle.graph_writer.specs.Writing.{edition_bytes}

abbrev pub moving_of : Result ℕ MoveError → List ℕ → Writing
moving_of r buffer = record { answer = move_answer r; buffer = buffer }

-- what becomes of a reading: the graph in the edition `to`, where the buffer has room, else 13, which so comes last
abbrev pub move_read : Edition → Reading → List ℕ → Writing
move_read to r buffer =
    when_accepted r.answer (λ n. fill (edition_bytes to (graph n r.labels r.edges)) buffer) (λ refusal. record { answer = refusal; buffer = buffer })

unfoldable pub moving : Edition → Edition → List ℕ → List ℕ → Writing
moving from to bytes buffer = move_read to (read_file from to bytes) buffer
