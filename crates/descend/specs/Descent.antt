-- The descent, by visits: the search from the largest conceivable minimum, begun anew one lower each time it finishes with nothing held, down to a floor. It is
-- beyond 01 and 02; a visit, a finished search and its ceiling are those of 01, "The walk".
use Rattle.std.specs.Prelude.{◌≡◌, Bool, true, false, cond, not, ◌&&◌, List, [], ℕ, zero, suc, ◌+◌, ◌-◌, ◌<◌, min, max, ltb}
use Rattle.std.proofs.Math.Option.{Option}
use Rattle.search_tree.specs.Rules.{Rules}
use Rattle.search_tree.specs.Search.{Search}
use Rattle.search_tree.specs.Node.{upper_bound}
use Rattle.search_tree.specs.Walk.{State, fresh, cutoff, visit}
use Rattle.search_tree.specs.Ceiling.{ceiling}
use Rattle.checkpoint.specs.Checkpoints.{has_incumbent}

-- where a descent stands: the minimum of the search that it is in, and that search's state. A checkpoint says both.
pub record Descent : Type 0 where
  pub minimum : ℕ
  pub state : State

-- at a search that has not begun
abbrev pub fresh_at : ℕ → Descent
fresh_at minimum = record { minimum = minimum; state = fresh }

-- the largest conceivable minimum: no mapping has more pairs than either graph has vertices, nor than the root's upper bound; but not below the floor
unfoldable pub start_of : Rules → ℕ → ℕ
start_of R floor = max floor (min (min R.rows R.values) (upper_bound R []))

-- a search above the floor that is finished and holds nothing: every mapping that counts has fewer pairs than its minimum
abbrev pub is_exhausted : ℕ → ℕ → Bool → Bool → Bool
is_exhausted floor minimum finished holds = finished && not holds && ltb floor minimum

abbrev pub exhausted : ℕ → Descent → Bool
exhausted floor d = is_exhausted floor d.minimum d.state.finished (has_incumbent d.state.incumbent)

-- then the descent begins anew one lower, which costs no visit
unfoldable pub renewed : ℕ → Descent → Descent
renewed floor d = cond (exhausted floor d) (fresh_at (d.minimum - 1)) d

-- one visit of the search that the descent is in; a finished one is unchanged
abbrev pub visited : Search → Descent → Descent
visited S d = record { minimum = d.minimum; state = visit S d.minimum d.state }

-- k visits, fewer only if the descent is done
unfoldable pub descents : Search → ℕ → ℕ → Descent → Descent
descents S floor zero d = renewed floor d
descents S floor (suc k) d = renewed floor (visited S (descents S floor k d))

-- done: finished is enough, since an exhausted search is never left
abbrev pub is_done : Descent → Bool
is_done d = d.state.finished

-- how many of k visits are made
unfoldable pub made : Search → ℕ → ℕ → Descent → ℕ
made S floor zero d = 0
made S floor (suc k) d = made S floor k d + cond (is_done (descents S floor k d)) 0 1

-- The ceiling of a descent, from its search's. The search one above held nothing, or the minimum is the largest conceivable: so no mapping that counts has more
-- pairs than the minimum. A search that holds more is in no descent, and keeps its own ceiling.
abbrev pub lowered : ℕ → Option (List ℕ) → ℕ → ℕ
lowered minimum incumbent top = cond (ltb (minimum + 1) (cutoff minimum incumbent)) top (min (minimum + 1) top)

unfoldable pub descent_ceiling : Rules → Descent → ℕ
descent_ceiling R d = lowered d.minimum d.state.incumbent (ceiling R d.minimum d.state)

-- the descent from its start after k visits
abbrev pub descent_after : Search → ℕ → ℕ → Descent
descent_after S floor k = descents S floor k (fresh_at (start_of S.rules floor))

-- its total: done after t visits and after no fewer
pub record IsTotal (S : Search) (floor t : ℕ) : Type 0 where
  pub ended : is_done (descent_after S floor t) ≡ true
  pub busy : (k : ℕ) → k < t → is_done (descent_after S floor k) ≡ false
