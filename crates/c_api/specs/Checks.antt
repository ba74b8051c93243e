-- The two checks on bytes: is this a graph, and is this mapping a common subgraph (01, "Charts" and "Good partner lists"; 02, U1).
use Rattle.std.specs.Prelude.{List, ℕ}
use Rattle.answers.specs.Answer.{Answer}
use Rattle.graph_reader.specs.Reading.{read_graph}
use Rattle.problem.specs.Problem.{Problem, substituting}
use Rattle.mapping.specs.Check.{check_outcome}
use Rattle.problem_reader.specs.ProblemReading.{ReadOutcome, on_outcome, read_problem}
use Rattle.replies.specs.declared.Reply.{Reply}
use Rattle.replies.specs.Reply.{reply_of}
use Rattle.replies.specs.Checked.{CheckedMapping, checked, checked_by}

unfoldable pub checking_graph : List ℕ → Reply
checking_graph bytes = reply_of (read_graph bytes).answer

-- the graphs' refusal comes first, then the list's
abbrev pub check_on : ReadOutcome → List ℕ → List ℕ → CheckedMapping
check_on outcome substitutes l =
    on_outcome (λ (P : Problem). checked_by (check_outcome (substituting substitutes P) l)) (λ (refusal : Answer). checked (reply_of refusal) 0) outcome

unfoldable pub checking_mapping : List ℕ → List ℕ → List ℕ → List ℕ → CheckedMapping
checking_mapping old new substitutes l = check_on (read_problem old new) substitutes l
