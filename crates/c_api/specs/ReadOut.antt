-- Reading out a checkpoint that is bytes, for two graphs that are bytes and a list of substitutes (01, "Bookmark and calls"; 02, U1 and U7).
use Rattle.std.specs.Prelude.{Bool, List, ℕ}
use Rattle.answers.specs.Answer.{Answer}
use Rattle.problem.specs.Problem.{Problem, substituting}
use Rattle.problem_reader.specs.ProblemReading.{ReadOutcome, on_outcome, read_problem}
use Rattle.replies.specs.Reply.{reply_of}
use Rattle.replies.specs.ReadOut.{ReadOut, not_read_out, read_bytes}

abbrev pub read_out_on : ReadOutcome → List ℕ → Bool → List ℕ → List ℕ → ReadOut
read_out_on outcome substitutes connected bytes mapping =
    on_outcome
    (λ (P : Problem). read_bytes connected (substituting substitutes P) bytes mapping)
    (λ (refusal : Answer). not_read_out mapping (reply_of refusal))
    outcome

-- the graphs' refusals, the list's, those of the checkpoint bytes, and last 13 where a held mapping does not fit
unfoldable pub reading_out : List ℕ → List ℕ → List ℕ → Bool → List ℕ → List ℕ → ReadOut
reading_out old new substitutes connected bytes mapping = read_out_on (read_problem old new) substitutes connected bytes mapping
