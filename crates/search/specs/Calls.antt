-- A list of calls of one search on one problem, each on the checkpoint that the one before left: 01, "Bookmark and calls", third paragraph.
use Rattle.std.specs.Prelude.{◌≡◌, Bool, cond, List, [], ◌∷◌, ◌++◌, ℕ, ◌+◌}
use Rattle.answers.specs.Answer.{is_refused}
use Rattle.problem.specs.Problem.{Problem}
use Rattle.checkpoint.specs.declared.Checkpoint.{Checkpoint}
use Rattle.checkpoint.specs.Checkpoints.{fresh_checkpoint}
use Rattle.search.specs.Call.{Called, search_call}

-- "The allowance, the number of work words and what these hold may be anything in each call."
pub record Call : Type 0 where
  pub budget : ℕ
  pub workspace : List ℕ

-- "All calls of a list have the same two charts."; 02, U1: "calls that resume one another take the same list"; U7: "Calls that resume one another are of the same
-- search"
abbrev pub called : Bool → Problem → Checkpoint → Call → Called
called connected P c call = search_call connected P c call.budget call.workspace

-- what each call gives; "Between two calls the bookmark's value stays the same"
unfoldable pub results : Bool → Problem → Checkpoint → List Call → List Called
results connected P c [] = []
results connected P c (call ∷ later) = called connected P c call ∷ results connected P (called connected P c call).checkpoint later

-- the checkpoint that the last call leaves
unfoldable pub leaves : Bool → Problem → Checkpoint → List Call → Checkpoint
leaves connected P c [] = c
leaves connected P c (call ∷ later) = leaves connected P (called connected P c call).checkpoint later

-- of a refused call "its allowance isn't counted"
abbrev pub counted : Called → ℕ → ℕ
counted r budget = cond (is_refused r.answer) 0 budget

-- the summed budgets of the calls that are not refused
unfoldable pub summed : Bool → Problem → Checkpoint → List Call → ℕ
summed connected P c [] = 0
summed connected P c (call ∷ later) = counted (called connected P c call) call.budget + summed connected P (called connected P c call).checkpoint later

-- one call of a list, with the calls before it and those after it
pub record CallIn (calls : List Call) : Type 0 where
  pub before : List Call
  pub call : Call
  pub later : List Call
  pub whole : calls ≡ before ++ (call ∷ later)

-- the calls up to this one, itself included
abbrev pub up_to : {calls : List Call} → CallIn calls → List Call
up_to x = x.before ++ (x.call ∷ [])

-- from a fresh checkpoint: the checkpoint after the calls, their summed budgets, and what one of them gives
abbrev pub reached : Bool → Problem → ℕ → List Call → Checkpoint
reached connected P minimum calls = leaves connected P (fresh_checkpoint minimum) calls

abbrev pub spent : Bool → Problem → ℕ → List Call → ℕ
spent connected P minimum calls = summed connected P (fresh_checkpoint minimum) calls

abbrev pub result_of : Bool → Problem → ℕ → {calls : List Call} → CallIn calls → Called
result_of connected P minimum x = called connected P (reached connected P minimum x.before) x.call
