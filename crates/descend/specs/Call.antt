-- The start of a descent, and one call of it: refused as a search call is (01, the rows "Tables lent" to "Search call" of the refusals), else so many visits, or
-- until it is done.
use Rattle.std.specs.Prelude.{Bool, List, ℕ}
use Rattle.answers.specs.Answer.{Answer, accepted, refused, on_answer, when_accepted}
use Rattle.problem.specs.Problem.{Problem, problem_answer}
use Rattle.search_tree.specs.Rules.{Rules, rules_of}
use Rattle.search_tree.specs.Search.{search_of}
use Rattle.checkpoint.specs.declared.Checkpoint.{Checkpoint}
use Rattle.checkpoint.specs.Checkpoints.{fresh_checkpoint, checkpoint_of, state_of}
use Rattle.search.specs.Call.{cleared, search_call}
use Rattle.descend.specs.Descent.{Descent, fresh_at, start_of, descents, made, descent_ceiling}

-- the answer and the checkpoint at the start
pub record Started : Type 0 where
  pub answer : Answer
  pub checkpoint : Checkpoint

-- a refusal gives its number, and the fresh checkpoint of the floor
abbrev pub refuse_start : ℕ → ℕ → Started
refuse_start floor number = record { answer = refused number; checkpoint = fresh_checkpoint floor }

-- 10, 11, 12, 23 and 24; else the ceiling and the checkpoint of the start
unfoldable pub start_call : Problem → ℕ → Started
start_call P floor =
    let start = start_of (rules_of P) floor in
    let refusal = refuse_start floor in
    on_answer (record { answer = accepted (descent_ceiling (rules_of P) (fresh_at start)); checkpoint = fresh_checkpoint start })
    refusal refusal (λ number at. refusal number) (problem_answer P)

-- the answer, the visits made, the checkpoint and the workspace after a call
pub record Descended : Type 0 where
  pub answer : Answer
  pub visits : ℕ
  pub checkpoint : Checkpoint
  pub workspace : List ℕ

-- where a descent of n old vertices stands by a checkpoint
abbrev pub standing : ℕ → Checkpoint → Descent
standing n c = record { minimum = c.minimum; state = state_of n c }

-- what an accepted call gives: as a search call, it leaves the words that it needs 0 and later words untouched, and returns the ceiling
abbrev pub arrive : Rules → List ℕ → ℕ → Descent → Descended
arrive R workspace visits d =
    record {
      answer = accepted (descent_ceiling R d);
      visits = visits;
      checkpoint = checkpoint_of d.minimum d.state;
      workspace = cleared workspace;
    }

unfoldable pub descend_from : Bool → Problem → ℕ → Checkpoint → ℕ → List ℕ → Descended
descend_from connected P floor c budget workspace =
    let S = search_of connected P in
    let d = standing P.old.order c in
    arrive (rules_of P) workspace (made S floor budget d) (descents S floor budget d)

-- The refusals are those of the search call on the lent checkpoint, 16 too, which so speaks of that search's own steps; a refused call changes nothing.
unfoldable pub descend_call : Bool → Problem → ℕ → Checkpoint → ℕ → List ℕ → Descended
descend_call connected P floor c budget workspace =
    when_accepted (search_call connected P c budget workspace).answer
    (λ top. descend_from connected P floor c budget workspace)
    (λ (refusal : Answer). record { answer = refusal; visits = 0; checkpoint = c; workspace = workspace })
