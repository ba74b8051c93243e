-- A search started and then resumed any number of times through checkpoint bytes, and the mission's third property of it: 01, "Bookmark and calls", third
-- paragraph, "one claim about the whole list of search calls".
use Rattle.std.specs.Prelude.{◌≡◌, Bool, List, map, ℕ, take}
use Rattle.answers.specs.Answer.{Answer, refusal_number, on_answer}
use Rattle.problem.specs.Problem.{Problem, SoundProblem, substituting}
use Rattle.problem_reader.specs.ProblemReading.{read, read_problem}
use Rattle.search_tree.specs.Search.{search_of}
use Rattle.search_tree.specs.Walk.{IsTotal}
use Rattle.checkpoint.specs.Checkpoints.{fresh_checkpoint}
use Rattle.search.specs.Call.{Called}
use Rattle.search.specs.Calls.{Call, results, reached}
use Rattle.search.specs.ThirdProperty.{ThirdProperty}
use Rattle.checkpoint_loader.specs.Loading.{loading}
use Rattle.replies.specs.Resumed.{Resumed}
use Rattle.c_api.specs.Calls.{resuming}
use Rattle.c_api.specs.Wrote.{Wrote}
use Rattle.c_api.specs.ResumedCall.{loads_to}
use Rattle.c_api.specs.ByteRuns.{ByteCall, Written, bytes_left, calls_made, returned}

-- what a caller sees of a search call: the refusal's number or 0, the ceiling or 0, and the workspace afterwards
pub record Seen : Type 0 where
  pub number : ℕ
  pub ceiling : ℕ
  pub workspace : List ℕ

abbrev pub ceiling_of : Answer → ℕ
ceiling_of answer = on_answer 0 (λ ceiling. ceiling) (λ number. 0) (λ number at. 0) answer

abbrev pub seen_of : Called → Seen
seen_of q = record { number = refusal_number q.answer; ceiling = ceiling_of q.answer; workspace = q.workspace }

abbrev pub seen_by : Resumed → Seen
seen_by r = record { number = r.reply.number; ceiling = r.ceiling; workspace = r.workspace }

abbrev pub written_by : Resumed → Written
written_by r = record { number = r.reply.number; bytes = take r.reply.value r.next }

-- the bytes that an accepted start wrote
abbrev pub start_bytes : Wrote → List ℕ
start_bytes s = take s.reply.value s.buffer

-- 02, U1 and U7: calls that resume one another take the same list, as they take the same two graphs, and are of the same search
module _ (old new substitutes : List ℕ) (connected : Bool) where
  abbrev pub resume : List ℕ → ByteCall → Resumed
  resume bytes x = resuming old new substitutes connected bytes x.budget x.workspace x.next

  -- what it writes
  abbrev pub writes : List ℕ → ByteCall → Written
  writes bytes x = written_by (resume bytes x)

  -- the search calls that are made
  abbrev pub search_calls : List ℕ → List ByteCall → List Call
  search_calls bytes calls = calls_made writes bytes calls

  -- Whatever calls follow on these bytes, the third property holds of the search calls that are made, they return what those calls give, and the
  -- bytes left load the checkpoint that those calls reach.
  pub record ThroughBytes (minimum : ℕ) (bytes : List ℕ) : Type 0 where
    pub graphs : Problem
    pub graphs_read : read_problem old new ≡ read graphs
    pub sound : SoundProblem (substituting substitutes graphs)
    pub total : ℕ
    pub is_total : IsTotal (search_of connected (substituting substitutes graphs)) minimum total
    pub property : (calls : List ByteCall) → ThirdProperty connected (substituting substitutes graphs) minimum total (search_calls bytes calls)
    pub returns : (calls : List ByteCall)
        → returned writes (λ b x. seen_by (resume b x)) bytes calls ≡ map seen_of (results connected (substituting substitutes graphs) (fresh_checkpoint minimum) (search_calls bytes calls))
    pub loads : (calls : List ByteCall)
        → loading connected (substituting substitutes graphs) (bytes_left writes bytes calls)
        ≡ loads_to (reached connected (substituting substitutes graphs) minimum (search_calls bytes calls))
