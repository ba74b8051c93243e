-- A list of calls of one descent on one problem, from its start, each on the checkpoint that the one before left, as 01, "Bookmark and calls", third paragraph, has
-- it for search calls. A call is a budget and a workspace, which may be anything.
use Rattle.std.specs.Prelude.{Bool, cond, List, [], ◌∷◌, ◌++◌, ℕ, ◌+◌}
use Rattle.answers.specs.Answer.{is_refused}
use Rattle.problem.specs.Problem.{Problem}
use Rattle.checkpoint.specs.declared.Checkpoint.{Checkpoint}
use Rattle.search.specs.Calls.{Call, CallIn, up_to}
use Rattle.descend.specs.Call.{Descended, start_call, descend_call}

-- All calls have the same problem, the same search and the same floor.
abbrev pub called : Bool → Problem → ℕ → Checkpoint → Call → Descended
called connected P floor c call = descend_call connected P floor c call.budget call.workspace

-- what calls leave: the checkpoint, the summed budgets of those that are not refused, and the visits that they told, summed
pub record Left : Type 0 where
  pub checkpoint : Checkpoint
  pub spent : ℕ
  pub visits : ℕ

abbrev pub left_by : Bool → Problem → ℕ → Left → Call → Left
left_by connected P floor a call =
    let r = called connected P floor a.checkpoint call in
    record {
      checkpoint = r.checkpoint;
      spent = a.spent + cond (is_refused r.answer) 0 call.budget;
      visits = a.visits + r.visits;
    }

unfoldable pub left_from : Bool → Problem → ℕ → Left → List Call → Left
left_from connected P floor a [] = a
left_from connected P floor a (call ∷ later) = left_from connected P floor (left_by connected P floor a call) later

-- the start of a descent, before any call, and what a list of calls leaves from there
abbrev pub at_start : Problem → ℕ → Left
at_start P floor = record { checkpoint = (start_call P floor).checkpoint; spent = 0; visits = 0 }

abbrev pub left_after : Bool → Problem → ℕ → List Call → Left
left_after connected P floor calls = left_from connected P floor (at_start P floor) calls

-- what each call gives, from a checkpoint on
unfoldable pub results_from : Bool → Problem → ℕ → Checkpoint → List Call → List Descended
results_from connected P floor c [] = []
results_from connected P floor c (call ∷ later) = let r = called connected P floor c call in r ∷ results_from connected P floor r.checkpoint later

-- and from the start on
abbrev pub results : Bool → Problem → ℕ → List Call → List Descended
results connected P floor calls = results_from connected P floor (start_call P floor).checkpoint calls

-- what a call gives after others
abbrev pub result_after : Bool → Problem → ℕ → List Call → Call → Descended
result_after connected P floor before call = called connected P floor (left_after connected P floor before).checkpoint call

-- what one of a list gives
abbrev pub result_of : Bool → Problem → ℕ → {calls : List Call} → CallIn calls → Descended
result_of connected P floor x = result_after connected P floor x.before x.call

-- and one of those after it
abbrev pub result_later : Bool → Problem → ℕ → {calls : List Call} → (x : CallIn calls) → CallIn x.later → Descended
result_later connected P floor x y = result_after connected P floor (up_to x ++ y.before) y.call
