-- How a resumed search goes, by the number that it returns: refused, 13 last and only where the bytes do not fit, or accepted with the next
-- checkpoint saved (01, "Refusals by place of checking" and "Bookmark and calls").
use Rattle.std.specs.Prelude.{Bool, ◌≡◌, List, ℕ, ◌≤◌, ◌<◌, length, take}
use Rattle.answers.specs.Answer.{passed, accepted}
use Rattle.problem.specs.Problem.{Problem, substituting}
use Rattle.problem_reader.specs.ProblemReading.{read, read_problem}
use Rattle.checkpoint.specs.declared.Checkpoint.{Checkpoint}
use Rattle.search.specs.Call.{Called, search_call}
use Rattle.checkpoint_saver.specs.Saving.{checkpoint_bytes}
use Rattle.checkpoint_loader.specs.Loading.{Loading, loading}
use Rattle.replies.specs.Resumed.{Resumed}

-- the search call on the checkpoint that is loaded
abbrev pub loaded_call : Bool → Problem → List ℕ → ℕ → List ℕ → Called
loaded_call connected P bytes budget workspace = search_call connected P (loading connected P bytes).checkpoint budget workspace

-- bytes that load this checkpoint
abbrev pub loads_to : Checkpoint → Loading
loads_to c = record { answer = passed; checkpoint = c }

module _ (old new substitutes : List ℕ) (connected : Bool) (bytes : List ℕ) (budget : ℕ) (workspace : List ℕ) where
  -- graphs that are read, a checkpoint that is loaded for them with the list, and a search call on it that is accepted
  pub record SearchMade : Type 0 where
    pub graphs : Problem
    pub graphs_read : read_problem old new ≡ read graphs
    pub loaded : (loading connected (substituting substitutes graphs) bytes).answer ≡ passed
    pub ceiling : ℕ
    pub ceiling_is : (loaded_call connected (substituting substitutes graphs) bytes budget workspace).answer ≡ accepted ceiling

  -- what that call gives
  abbrev pub call_made : SearchMade → Called
  call_made s = loaded_call connected (substituting substitutes s.graphs) bytes budget workspace

  -- "13 too short": what the search call left does not fit
  pub record Short (next : List ℕ) (r : Resumed) : Type 0 where
    pub searched : SearchMade
    pub number : r.reply.number ≡ 13
    pub too_short : length next < length (checkpoint_bytes searched.graphs.old.order (call_made searched).checkpoint)

  -- an accepted resume: the ceiling and the workspace are that call's, and the bytes written load back to the checkpoint that it left
  pub record Advanced (r : Resumed) : Type 0 where
    pub searched : SearchMade
    pub number : r.reply.number ≡ 0
    pub ceiling_is : r.ceiling ≡ searched.ceiling
    pub workspace_is : r.workspace ≡ (call_made searched).workspace
    pub saved : loading connected (substituting substitutes searched.graphs) (take r.reply.value r.next) ≡ loads_to (call_made searched).checkpoint

  -- the three ways
  pub data ResumedCall (next : List ℕ) (r : Resumed) : Type 0 where
    -- by a test that comes before the output's
    refused : 1 ≤ r.reply.number → (r.reply.number ≡ 13 → ⊥) → ResumedCall next r
    short : Short next r → ResumedCall next r
    advanced : Advanced r → ResumedCall next r
