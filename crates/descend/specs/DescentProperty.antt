-- What is promised of a descent: one claim about the whole list of its calls, refused ones included, stated as the mission's third property is for search calls
-- (01, "Bookmark and calls", third paragraph); of the first search and of the connected one.
use Rattle.std.specs.Prelude.{◌≡◌, ◌↔◌, Bool, true, false, List, ℕ, ◌+◌, ◌≤◌, ◌<◌, min}
use Rattle.std.proofs.Math.Option.{none, some}
use Rattle.answers.specs.Answer.{accepted, refused, is_refused}
use Rattle.problem.specs.Problem.{Problem}
use Rattle.mapping.specs.Common.{size}
use Rattle.search_tree.specs.Rules.{rules_of}
use Rattle.search_tree.specs.Search.{search_of, Good}
use Rattle.search_tree.specs.Walk as Walk
use Rattle.search_tree.specs.Best.{Best}
use Rattle.checkpoint.specs.declared.Checkpoint.{Checkpoint}
use Rattle.checkpoint.specs.Checkpoints.{checkpoint_of}
use Rattle.search.specs.Call as SearchCall
use Rattle.search.specs.Calls.{Call, CallIn, up_to}
use Rattle.search.specs.ThirdProperty.{Judged, Unchanged, incumbent_in}
use Rattle.descend.specs.Descent.{Descent, descent_after, descent_ceiling}
use Rattle.descend.specs.Call.{start_call}
use Rattle.descend.specs.Calls.{left_after, result_of, result_later}

-- where the descent stands after the visits that a list of calls makes: the smaller of its total t and their summed budgets
abbrev pub stands_after : Bool → Problem → ℕ → ℕ → List Call → Descent
stands_after connected P floor t calls = descent_after (search_of connected P) floor (min t (left_after connected P floor calls).spent)

-- the checkpoint there
abbrev pub checkpoint_at : Descent → Checkpoint
checkpoint_at d = checkpoint_of d.minimum d.state

-- t is the descent's total
pub record DescentProperty (connected : Bool) (P : Problem) (floor t : ℕ) (calls : List Call) : Type 0 where
  -- each call is judged by the table's row "Search call" on the descent's checkpoint so far; 16 speaks of the steps of the search that it is in
  pub judged : (x : CallIn calls)
      → Judged (checkpoint_at (stands_after connected P floor t x.before)) x.call (result_of connected P floor x).answer
  -- no call gets 14
  pub never_14 : (x : CallIn calls) → (result_of connected P floor x).answer ≡ refused 14 → ⊥
  -- a refused one changes nothing, makes no visit, and its budget isn't counted
  pub unchanged : (x : CallIn calls) → is_refused (result_of connected P floor x).answer ≡ true
      → Unchanged (left_after connected P floor x.before).checkpoint x.call.workspace (result_of connected P floor x).checkpoint (result_of connected P floor x).workspace
  pub unvisited : (x : CallIn calls) → is_refused (result_of connected P floor x).answer ≡ true → (result_of connected P floor x).visits ≡ 0
  pub uncounted : (x : CallIn calls) → is_refused (result_of connected P floor x).answer ≡ true
      → (left_after connected P floor (up_to x)).spent ≡ (left_after connected P floor x.before).spent
  -- every other call's is
  pub counted : (x : CallIn calls) → is_refused (result_of connected P floor x).answer ≡ false
      → (left_after connected P floor (up_to x)).spent ≡ (left_after connected P floor x.before).spent + x.call.budget
  -- the visits that the calls tell are the smaller of the summed budgets and the total
  pub visits : (left_after connected P floor calls).visits ≡ min t (left_after connected P floor calls).spent
  -- the checkpoint is the descent's after so many visits
  pub checkpoint : (left_after connected P floor calls).checkpoint ≡ checkpoint_at (stands_after connected P floor t calls)
  -- a returned ceiling is the descent's after the visits made by the end of that call
  pub ceilings : (x : CallIn calls) → is_refused (result_of connected P floor x).answer ≡ false
      → (result_of connected P floor x).answer ≡ accepted (descent_ceiling (rules_of P) (stands_after connected P floor t (up_to x)))
  -- every good mapping has fewer pairs
  pub above : (x : CallIn calls) (top : ℕ) → (result_of connected P floor x).answer ≡ accepted top → (l : List ℕ) → Good connected P l → size l < top
  -- and it never rises from a call to a later one
  pub falls : (x : CallIn calls) (y : CallIn x.later) (top next : ℕ) → (result_of connected P floor x).answer ≡ accepted top
      → (result_later connected P floor x y).answer ≡ accepted next → next ≤ top
  -- the start's ceiling is above every good mapping already, and no call's is higher
  pub start_above : (top : ℕ) → (start_call P floor).answer ≡ accepted top → (l : List ℕ) → Good connected P l → size l < top
  pub start_falls : (x : CallIn calls) (top next : ℕ) → (start_call P floor).answer ≡ accepted top → (result_of connected P floor x).answer ≡ accepted next → next ≤ top
  -- it tells the end: one above the size of what is held, as soon as something is; the floor, once done with nothing
  pub held_ceiling : (x : CallIn calls) (top : ℕ) (h : List ℕ) → (result_of connected P floor x).answer ≡ accepted top
      → incumbent_in P (left_after connected P floor (up_to x)).checkpoint ≡ some h → top ≡ size h + 1
  pub none_ceiling : (x : CallIn calls) (top : ℕ) → (result_of connected P floor x).answer ≡ accepted top
      → (left_after connected P floor (up_to x)).checkpoint.finished ≡ true → incumbent_in P (left_after connected P floor (up_to x)).checkpoint ≡ none → top ≡ floor
  -- what is held is best from the floor on, as soon as it is held: good, reaching the floor, no other has more, and the first of those in the order
  pub held : (h : List ℕ) → incumbent_in P (left_after connected P floor calls).checkpoint ≡ some h → Best (Good connected P) floor (some h)
  -- done, which is finished, exactly at the total
  pub finished : ((left_after connected P floor calls).checkpoint.finished ≡ true) ↔ ((left_after connected P floor calls).visits ≡ t)
  -- once done, what is held is best from the floor on, and nothing where no good mapping reaches the floor
  pub best : (left_after connected P floor calls).checkpoint.finished ≡ true
      → Best (Good connected P) floor (incumbent_in P (left_after connected P floor calls).checkpoint)
  -- which is what the finished search from the floor holds
  pub same : (left_after connected P floor calls).checkpoint.finished ≡ true → (u : ℕ) → Walk.IsTotal (search_of connected P) floor u
      → incumbent_in P (left_after connected P floor calls).checkpoint ≡ (Walk.after (search_of connected P) floor u).incumbent
  -- an accepted call leaves the words that it needs 0 and later words untouched
  pub cleared : (x : CallIn calls) → is_refused (result_of connected P floor x).answer ≡ false
      → (result_of connected P floor x).workspace ≡ SearchCall.cleared x.call.workspace
