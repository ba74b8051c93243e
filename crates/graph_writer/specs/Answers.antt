-- What the answers of writing and of moving say in 01's terms (01, "Refusals by place of checking", the row "Output" and those of the graph).
use Rattle.std.specs.Prelude.{Option, Some, None, Result, ℕ}
use Rattle.answers.specs.Answer.{Answer, accepted, refused, refused_at, counted}
use Rattle.graph.specs.Answers.{flaw_refusal}
use Rattle.graph_reader.specs.Answers.{fault_number}
use Rattle.graph_writer.specs.declared.WriteError.{WriteError}
use Rattle.graph_writer.specs.declared.WriteError.TheVariants as write
use Rattle.graph_writer.specs.declared.MoveError.{MoveError}
use Rattle.graph_writer.specs.declared.MoveError.TheVariants as move

-- how many bytes were written, or there was no room
abbrev pub filled_answer : Option ℕ → Answer
filled_answer (Some n) = accepted n
filled_answer None = refused 13

abbrev pub write_refusal : WriteError → Answer
write_refusal (write.Flawed f) = flaw_refusal f
write_refusal write.TooShort = refused 13

abbrev pub write_answer : Result ℕ WriteError → Answer
write_answer r = counted write_refusal r

-- a move hands on what its reader refuses, with the place
abbrev pub move_refusal : MoveError → Answer
move_refusal (move.Unreadable f at) = refused_at (fault_number f) at
move_refusal move.TooShort = refused 13

abbrev pub move_answer : Result ℕ MoveError → Answer
move_answer r = counted move_refusal r
