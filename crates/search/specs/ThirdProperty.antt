-- The mission's third property, "one claim about the whole list of search calls": 01, "Bookmark and calls", third paragraph; of the first search and of the
-- connected one, for which "a good matching, wherever the third property names one, is a connected good one" (02, U7).
-- The lists start at a fresh checkpoint. 01's words: bookmark is checkpoint, floor is minimum, allowance is budget, fence is ceiling,
-- good is `Good`, work words are the workspace.
use Rattle.std.specs.Prelude.{◌≡◌, ◌↔◌, ◌⊎◌, Bool, true, false, cond, List, ◌++◌, ℕ, ◌+◌, ◌-◌, ◌^◌, ◌≤◌, ◌<◌, min, length, take, drop, replicate}
use Rattle.std.proofs.Math.Option.{Option, none, some}
use Rattle.answers.specs.Answer.{Answer, accepted, refused, is_refused}
use Rattle.problem.specs.Problem.{Problem}
use Rattle.mapping.specs.Common.{size}
use Rattle.search_tree.specs.Rules.{rules_of}
use Rattle.search_tree.specs.Search.{search_of, Good}
use Rattle.search_tree.specs.Walk.{State, after}
use Rattle.search_tree.specs.Ceiling.{ceiling}
use Rattle.search_tree.specs.Best.{Best}
use Rattle.checkpoint.specs.declared.Checkpoint.{Checkpoint}
use Rattle.checkpoint.specs.Checkpoints.{checkpoint_of}
use Rattle.search.specs.Call.{words_needed}
use Rattle.search.specs.Calls.{Call, CallIn, up_to, reached, spent, result_of}

-- the table's row "Search call", for a call on checkpoint c; "the first condition met in this order gives it, and no number is given
-- without its condition"
pub record Judged (c : Checkpoint) (call : Call) (answer : Answer) : Type 0 where
  -- "15 too few work words"
  pub words : (answer ≡ refused 15) ↔ (length call.workspace < words_needed)
  -- "16 unfinished and steps + allowance above 2^64 - 1"
  pub count : (answer ≡ refused 16)
      ↔ ((words_needed ≤ length call.workspace) × (c.finished ≡ false) × (2 ^ 64 - 1 < c.steps + call.budget))
  -- what is not refused with 15 or 16 is accepted
  pub others : (answer ≡ refused 15) ⊎ ((answer ≡ refused 16) ⊎ ((n : ℕ) × (answer ≡ accepted n)))

-- "a refused one changes nothing": neither the checkpoint c nor the workspace
pub record Unchanged (c : Checkpoint) (workspace : List ℕ) (c' : Checkpoint) (workspace' : List ℕ) : Type 0 where
  pub same_checkpoint : c' ≡ c
  pub same_workspace : workspace' ≡ workspace

-- what a checkpoint holds
abbrev pub incumbent_in : Problem → Checkpoint → Option (List ℕ)
incumbent_in P c = cond c.holds (some (take P.old.order c.incumbent)) none

-- the visits that a list of calls makes: the smaller of the total t and the summed budgets of the calls not refused
abbrev pub visits_made : Bool → Problem → ℕ → ℕ → List Call → ℕ
visits_made connected P minimum t calls = min t (spent connected P minimum calls)

-- the walk's state once they are made
abbrev pub walk_after : Bool → Problem → ℕ → ℕ → List Call → State
walk_after connected P minimum t calls = after (search_of connected P) minimum (visits_made connected P minimum t calls)

-- t is the walk's total
pub record ThirdProperty (connected : Bool) (P : Problem) (minimum t : ℕ) (calls : List Call) : Type 0 where
  -- "Each call is judged by the table below on the walk's bookmark so far"
  pub judged : (x : CallIn calls)
      → Judged (checkpoint_of minimum (walk_after connected P minimum t x.before)) x.call (result_of connected P minimum x).answer
  -- "No call of the list gets 14."
  pub never_14 : (x : CallIn calls) → (result_of connected P minimum x).answer ≡ refused 14 → ⊥
  -- "a refused one changes nothing"
  pub unchanged : (x : CallIn calls) → is_refused (result_of connected P minimum x).answer ≡ true
      → Unchanged (reached connected P minimum x.before) x.call.workspace (result_of connected P minimum x).checkpoint (result_of connected P minimum x).workspace
  -- "and its allowance isn't counted"
  pub uncounted : (x : CallIn calls) → is_refused (result_of connected P minimum x).answer ≡ true
      → spent connected P minimum (up_to x) ≡ spent connected P minimum x.before
  -- every other call's is
  pub counted : (x : CallIn calls) → is_refused (result_of connected P minimum x).answer ≡ false
      → spent connected P minimum (up_to x) ≡ spent connected P minimum x.before + x.call.budget
  -- "steps are the smaller of sum and total"; "The steps made are those that the bookmark carries."
  pub steps : (reached connected P minimum calls).steps ≡ min t (spent connected P minimum calls)
  -- the checkpoint is the walk's: "The walk's bookmark after k visits, k at most the total, has the floor, k steps, the next node's depth
  -- and path, unfinished or finished (then depth 0), the matching held by then, and unused bytes 0."
  pub checkpoint : reached connected P minimum calls ≡ checkpoint_of minimum (walk_after connected P minimum t calls)
  -- what is held is good and reaches the floor
  pub incumbent : (h : List ℕ) → incumbent_in P (reached connected P minimum calls) ≡ some h → Good connected P h × (minimum ≤ size h)
  -- "A returned fence is that of the walk after the visits made by the end of that call."
  pub ceilings : (x : CallIn calls) → is_refused (result_of connected P minimum x).answer ≡ false
      → (result_of connected P minimum x).answer ≡ accepted (ceiling (rules_of P) minimum (walk_after connected P minimum t (up_to x)))
  -- every good list has fewer pairs than a returned fence
  pub above : (x : CallIn calls) (top : ℕ) → (result_of connected P minimum x).answer ≡ accepted top → (l : List ℕ) → Good connected P l → size l < top
  -- "finished exactly at the total"
  pub finished : ((reached connected P minimum calls).finished ≡ true) ↔ ((reached connected P minimum calls).steps ≡ t)
  -- once finished, what is held is best: good, no other has more, and the first of those in the order; nothing where none reaches the floor
  pub best : (reached connected P minimum calls).finished ≡ true → Best (Good connected P) minimum (incumbent_in P (reached connected P minimum calls))
  -- "an accepted one leaves these 0 and later words untouched"
  pub cleared : (x : CallIn calls) → is_refused (result_of connected P minimum x).answer ≡ false
      → (result_of connected P minimum x).workspace ≡ replicate words_needed 0 ++ drop words_needed x.call.workspace
