-- Starting and resuming a descent whose checkpoint is bytes, under a list of substitutes (02, U1), by the first search or the connected one (02, U7). It is beyond
-- 01 and 02, as the descent is.
use Rattle.std.specs.Prelude.{Bool, List, ℕ}
use Rattle.problem.specs.Problem.{Problem, substituting}
use Rattle.problem_reader.specs.ProblemReading.{ReadOutcome, on_outcome, read_problem}
use Rattle.descend.specs.Call.{start_call}
use Rattle.descent_replies.specs.DescentReply.{DescentReply, not_descended, descend_bytes}
use Rattle.c_api.specs.Wrote.{Wrote}
use Rattle.c_api.specs.Calls.{begin_on}

-- the graphs' refusals, the list's, then 13 where the bytes of the start do not fit
unfoldable pub descend_starting : List ℕ → List ℕ → List ℕ → Bool → ℕ → List ℕ → Wrote
descend_starting old new substitutes connected floor buffer =
    begin_on (λ (P : Problem). (start_call P floor).checkpoint) (read_problem old new) substitutes connected buffer

abbrev pub descend_on : ReadOutcome → List ℕ → Bool → ℕ → List ℕ → ℕ → List ℕ → List ℕ → DescentReply
descend_on outcome substitutes connected floor bytes budget workspace next =
    on_outcome (λ (P : Problem). descend_bytes connected (substituting substitutes P) floor bytes budget workspace next) (not_descended workspace next) outcome

-- the graphs' refusals, the list's, those of the checkpoint bytes, those of the search call, and last 13
unfoldable pub descend_resuming : List ℕ → List ℕ → List ℕ → Bool → ℕ → List ℕ → ℕ → List ℕ → List ℕ → DescentReply
descend_resuming old new substitutes connected floor bytes budget workspace next =
    descend_on (read_problem old new) substitutes connected floor bytes budget workspace next
