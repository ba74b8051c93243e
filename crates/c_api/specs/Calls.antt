-- Starting and resuming a search whose checkpoint is bytes (01, "Bookmark and calls"), under a list of substitutes (02, U1), the first one or the connected one
-- (02, U7).
use Rattle.std.specs.Prelude.{Bool, not, List, ℕ, eqb}
use Rattle.answers.specs.Answer.{Answer}
use Rattle.problem.specs.Problem.{Problem, substituting}
use Rattle.problem_reader.specs.ProblemReading.{ReadOutcome, on_outcome, read_problem}
use Rattle.checkpoint.specs.declared.Checkpoint.{Checkpoint}
use Rattle.checkpoint.specs.Checkpoints.{fresh_checkpoint}
use Rattle.checkpoint_saver.specs.Saving.{saving}
use Rattle.replies.specs.Reply.{reply_of}
use Rattle.c_api.specs.Wrote.{Wrote, wrote, wrote_by}
use Rattle.replies.specs.Resumed.{Resumed, not_resumed, resume_from}

-- a number that asks for the connected search: any but 0
abbrev pub asked : ℕ → Bool
asked connected = not (eqb connected 0)

-- the checkpoint to begin with, by the problem that is searched, saved
abbrev pub begin_on : (Problem → Checkpoint) → ReadOutcome → List ℕ → Bool → List ℕ → Wrote
begin_on first outcome substitutes connected buffer =
    on_outcome
    (λ (P : Problem). let Q = substituting substitutes P in wrote_by (saving connected Q (first Q) buffer))
    (λ (refusal : Answer). wrote (reply_of refusal) buffer)
    outcome

-- "A fresh one needs a floor only"
abbrev pub start_on : ReadOutcome → List ℕ → Bool → ℕ → List ℕ → Wrote
start_on outcome substitutes connected minimum buffer = begin_on (λ (P : Problem). fresh_checkpoint minimum) outcome substitutes connected buffer

-- the graphs' refusals, the list's, then 13 where the bytes do not fit
unfoldable pub starting : List ℕ → List ℕ → List ℕ → Bool → ℕ → List ℕ → Wrote
starting old new substitutes connected minimum buffer = start_on (read_problem old new) substitutes connected minimum buffer

abbrev pub resume_on : ReadOutcome → List ℕ → Bool → List ℕ → ℕ → List ℕ → List ℕ → Resumed
resume_on outcome substitutes connected bytes budget workspace next =
    on_outcome (λ (P : Problem). resume_from connected (substituting substitutes P) bytes budget workspace next) (not_resumed workspace next) outcome

-- the graphs' refusals, the list's, those of the checkpoint bytes, those of the search call, and last 13
unfoldable pub resuming : List ℕ → List ℕ → List ℕ → Bool → List ℕ → ℕ → List ℕ → List ℕ → Resumed
resuming old new substitutes connected bytes budget workspace next = resume_on (read_problem old new) substitutes connected bytes budget workspace next
