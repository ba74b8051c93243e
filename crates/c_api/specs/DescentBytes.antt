-- A descent started and then resumed any number of times through checkpoint bytes, and what is promised of it. It is beyond 01 and 02, as the descent is; the bytes
-- are those of 01, "Bookmark and calls".
use Rattle.std.specs.Prelude.{◌≡◌, Bool, List, map, ℕ, take}
use Rattle.answers.specs.Answer.{refusal_number}
use Rattle.problem.specs.Problem.{Problem, SoundProblem, substituting}
use Rattle.problem_reader.specs.ProblemReading.{read, read_problem}
use Rattle.search_tree.specs.Search.{search_of}
use Rattle.search.specs.Calls.{Call}
use Rattle.checkpoint_loader.specs.Loading.{loading}
use Rattle.descend.specs.Descent.{IsTotal}
use Rattle.descend.specs.Call.{Descended}
use Rattle.descend.specs.Calls.{left_after, results}
use Rattle.descend.specs.DescentProperty.{DescentProperty}
use Rattle.descent_replies.specs.DescentReply.{DescentReply}
use Rattle.c_api.specs.Descents.{descend_resuming}
use Rattle.c_api.specs.ResumedCall.{loads_to}
use Rattle.c_api.specs.ByteRuns.{ByteCall, Written, bytes_left, calls_made, returned}
use Rattle.c_api.specs.ByteCalls.{ceiling_of}

-- what a caller sees of a descent call: the refusal's number or 0, the ceiling or 0, the visits, and the workspace afterwards
pub record SeenDescent : Type 0 where
  pub number : ℕ
  pub ceiling : ℕ
  pub visits : ℕ
  pub workspace : List ℕ

abbrev pub seen_of : Descended → SeenDescent
seen_of q = record { number = refusal_number q.answer; ceiling = ceiling_of q.answer; visits = q.visits; workspace = q.workspace }

abbrev pub seen_by : DescentReply → SeenDescent
seen_by r = record { number = r.reply.number; ceiling = r.ceiling; visits = r.visits; workspace = r.workspace }

abbrev pub written_by : DescentReply → Written
written_by r = record { number = r.reply.number; bytes = take r.reply.value r.next }

-- all calls take the same two graphs, the same list, the same search and the same floor
module _ (old new substitutes : List ℕ) (connected : Bool) (floor : ℕ) where
  abbrev pub resume : List ℕ → ByteCall → DescentReply
  resume bytes x = descend_resuming old new substitutes connected floor bytes x.budget x.workspace x.next

  -- what it writes
  abbrev pub writes : List ℕ → ByteCall → Written
  writes bytes x = written_by (resume bytes x)

  -- the descent calls that are made
  abbrev pub descent_calls : List ℕ → List ByteCall → List Call
  descent_calls bytes calls = calls_made writes bytes calls

  -- Whatever calls follow on these bytes, what is promised of a descent holds of the descent calls that are made, they return what those calls give, and the
  -- bytes left load the checkpoint that those calls leave.
  pub record DescentThroughBytes (bytes : List ℕ) : Type 0 where
    pub graphs : Problem
    pub graphs_read : read_problem old new ≡ read graphs
    pub sound : SoundProblem (substituting substitutes graphs)
    pub total : ℕ
    pub is_total : IsTotal (search_of connected (substituting substitutes graphs)) floor total
    pub property : (calls : List ByteCall) → DescentProperty connected (substituting substitutes graphs) floor total (descent_calls bytes calls)
    pub returns : (calls : List ByteCall)
        → returned writes (λ b x. seen_by (resume b x)) bytes calls ≡ map seen_of (results connected (substituting substitutes graphs) floor (descent_calls bytes calls))
    pub loads : (calls : List ByteCall)
        → loading connected (substituting substitutes graphs) (bytes_left writes bytes calls)
        ≡ loads_to (left_after connected (substituting substitutes graphs) floor (descent_calls bytes calls)).checkpoint
