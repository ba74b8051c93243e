-- Clique branching for two graphs that are bytes and a list of substitutes (02, U2).
use Rattle.std.specs.Prelude.{◌≡◌, List, ℕ, ◌<◌, length}
use Rattle.std.proofs.Math.Option.{some}
use Rattle.answers.specs.Answer.{Answer, passed}
use Rattle.problem.specs.Problem.{Problem, substituting}
use Rattle.clique.specs.Branching.{branch}
use Rattle.clique.specs.Call.{clique_answer}
use Rattle.problem_reader.specs.ProblemReading.{ReadOutcome, read, on_outcome, read_problem}
use Rattle.replies.specs.Reply.{reply_of}
use Rattle.replies.specs.CliqueReply.{CliqueReply, no_mapping, branch_reply}

abbrev pub branch_on : ReadOutcome → List ℕ → ℕ → List ℕ → CliqueReply
branch_on outcome substitutes minimum mapping =
    on_outcome
    (λ (P : Problem). branch_reply (substituting substitutes P) minimum mapping)
    (λ (refusal : Answer). no_mapping mapping (reply_of refusal))
    outcome

-- the graphs' refusals, the list's, 25, and last 13 where a held mapping does not fit
unfoldable pub branching : List ℕ → List ℕ → List ℕ → ℕ → List ℕ → CliqueReply
branching old new substitutes minimum mapping = branch_on (read_problem old new) substitutes minimum mapping

-- "13 too short": every test before it passes, and the mapping that is held does not fit
pub record HeldShort (old new substitutes : List ℕ) (minimum : ℕ) (mapping : List ℕ) : Type 0 where
  pub graphs : Problem
  pub graphs_read : read_problem old new ≡ read graphs
  pub tested : clique_answer (substituting substitutes graphs) ≡ passed
  pub held : List ℕ
  pub is_held : branch (substituting substitutes graphs) minimum ≡ some held
  pub too_short : length mapping < length held
