-- What the answer of reading says in 01's terms (01, "Refusals by place of checking", the rows "Tables lent" and "Any command" to "After the end";
-- 02, U6, 27 and 28).
use Rattle.std.specs.Prelude.{Result, ℕ}
use Rattle.answers.specs.Answer.{Answer, refused, refused_at, counted, tested}
use Rattle.graph_reader.specs.declared.Fault.{Fault}
use Rattle.graph_reader.specs.declared.Fault.TheVariants as fault
use Rattle.graph_reader.specs.declared.ReadError.{ReadError}
use Rattle.graph_reader.specs.declared.ReadError.TheVariants as read

-- since 02, U4, "Number 6 never occurs now"
abbrev pub fault_number : Fault → ℕ
fault_number fault.Truncated = 1
fault_number fault.UnknownCommand = 2
fault_number fault.ZeroLabel = 3
fault_number fault.TooManyVertices = 4
fault_number fault.MissingVertex = 5
fault_number fault.NullEdge = 7
fault_number fault.RepeatedEdge = 8
fault_number fault.TrailingBytes = 9
fault_number fault.OtherEdition = 27
fault_number fault.WideLabel = 28

-- "with place 0"
abbrev pub opening_refusal : Fault → Answer
opening_refusal f = refused_at (fault_number f) 0

abbrev pub opening_answer : Result Unit Fault → Answer
opening_answer r = tested opening_refusal r

abbrev pub read_refusal : ReadError → Answer
read_refusal read.Tables = refused 10
read_refusal (read.Faulty f at) = refused_at (fault_number f) at

abbrev pub read_answer : Result ℕ ReadError → Answer
read_answer r = counted read_refusal r
