-- What the answer of reading two graphs says in 01's terms (01, "Refusals by place of checking", the rows "Tables lent" and "Any command" to "After the end"; 02, U6, 27).
use Rattle.std.specs.Prelude.{List, Result, Ok, Err, ℕ}
use Rattle.answers.specs.Answer.{Answer, passed, result_answer}
use Rattle.graph.specs.Graph.{graph}
use Rattle.graph_reader.specs.Answers.{read_refusal}
use Rattle.graph_reader.specs.declared.ReadError.{ReadError}
use Rattle.problem.specs.Problem.{problem}
use Rattle.problem_reader.specs.ProblemReading.{ReadOutcome, read, refusal, ProblemReading}

-- both orders, or the refusal of the first graph that is refused
abbrev pub BothRead : Type 0
BothRead = Result (ℕ × ℕ) ReadError

abbrev pub problem_read_answer : BothRead → Answer
problem_read_answer r = result_answer (λ _. passed) read_refusal r

-- with the four tables: the graphs are those that the tables hold
abbrev pub read_outcome : BothRead → List ℕ → List ℕ → List ℕ → List ℕ → ReadOutcome
read_outcome (Ok orders) old_labels old_edges new_labels new_edges = read (problem (graph orders.0 old_labels old_edges) (graph orders.1 new_labels new_edges))
read_outcome (Err e) old_labels old_edges new_labels new_edges = refusal (read_refusal e)

abbrev pub problem_reading_of : BothRead → List ℕ → List ℕ → List ℕ → List ℕ → ProblemReading
problem_reading_of r old_labels old_edges new_labels new_edges =
    record {
      outcome = read_outcome r old_labels old_edges new_labels new_edges;
      old_labels = old_labels;
      old_edges = old_edges;
      new_labels = new_labels;
      new_edges = new_edges;
    }
