-- A descent of a sound problem ends: each search is done after its total, or exhausted, and then the next is one lower.
use mathlib.Core.Path.{◌≡◌, sym, ap, ◌∙◌}
use mathlib.Core.Bool.{Bool, true}
use Prim.Native.Nat.{ℕ, zero, suc, ◌+◌, ◌-◌, ◌*◌, ◌≤◌, ◌<◌}
use native.Mathlib.Nat.{zero-add, suc-mul}
use native.Mathlib.Omega.{arith}
use Rattle.problem.specs.Problem.{Problem, SoundProblem}
use Rattle.search_tree.specs.Search.{Search, search_of}
use Rattle.search_tree.specs.Rules.{rules_of}
use Rattle.search_tree.specs.StepLimit.{step_limit}
use Rattle.search_tree.specs.Walk.{State, fresh, after}
use Rattle.search_tree.proofs.WalkTheorems.{walk_ends}
use Rattle.checkpoint.specs.Checkpoints.{has_incumbent}
use Rattle.search.specs.Call.{visits}
use Rattle.search.proofs.WalkCall.{visits_after}
use Rattle.descend.specs.Descent.{fresh_at, descents, is_done, start_of, descent_after, IsTotal}
use Rattle.bounded.proofs.Endings.{done_stays, ends_exist, ends_unique}
use Rattle.descend.proofs.OneSearch.{Goes, stays, renews, goes, exhausted_facts}
use Rattle.descend.proofs.DescentLaws.{descents_add, descents_stay, total_ends, ends_total}

-- visits from a search that has not begun are the walk
visits_fresh : (S : Search) (minimum k : ℕ) → visits S minimum k fresh ≡ after S minimum k
unfolding after
visits_fresh S minimum k = visits_after S minimum k 0 ∙ ap (after S minimum) (zero-add k)

module _ (connected : Bool) (P : Problem) (sound : SoundProblem P) (floor : ℕ) where
  abbrev S : Search
  S = search_of connected P

  -- at most so many visits a search (02, U5)
  abbrev limit : ℕ
  limit = step_limit P.new.order P.old.order

  -- done after some number of visits, at most the limit for each search down to the floor
  abbrev Done : ℕ → Type 0
  Done minimum = (k : ℕ) × (is_done (descents S floor k (fresh_at minimum)) ≡ true) × (k ≤ suc (minimum - floor) * limit)

  -- a descent that the search at its minimum finishes, or exhausts
  step : (minimum : ℕ) → (floor < minimum → Done (minimum - 1)) → Done minimum
  step minimum lower =
      let end = walk_ends connected P sound minimum in
      let finished = ap (λ (s : State). s.finished) (visits_fresh S minimum end.0) ∙ end.1.ended in
      go end.0 finished end.2 (goes S floor minimum fresh end.0)
    where
      go : (t : ℕ) → (visits S minimum t fresh).finished ≡ true → t ≤ limit → Goes S floor minimum fresh t → Done minimum
      go t finished few (stays e same count) = (t, ap is_done same ∙ finished, omega (arith, suc-mul (minimum - floor) limit))
      go t finished few (renews e left sum same count) =
          let above = (exhausted_facts floor minimum (visits S minimum t fresh).finished (has_incumbent (visits S minimum t fresh).incumbent) e).above in
          let rest = lower above in
          let more : ℕ = left + rest.0 in
          let later = done_stays (λ k. descents S floor k (fresh_at (minimum - 1))) is_done (descents_stay S floor (fresh_at (minimum - 1))) rest.0 more rest.1 (omega arith) in
          let there : descents S floor (t + rest.0) (fresh_at minimum) ≡ descents S floor more (fresh_at (minimum - 1)) =
          descents_add S floor t rest.0 (fresh_at minimum)
          ∙ ap (descents S floor rest.0) same
          ∙ sym (descents_add S floor left rest.0 (fresh_at (minimum - 1))) in
          let fewer : suc (minimum - 1 - floor) ≡ minimum - floor = omega arith in
          let most : rest.0 ≤ (minimum - floor) * limit = rw fewer at rest.2 in
          (t + rest.0, ap is_done (there ∙ later) ∙ rest.1, omega (arith, suc-mul (minimum - floor) limit))

  -- A descent from any minimum is done after some number of visits.
  done_from_minimum : (minimum : ℕ) → Done minimum
  done_from_minimum zero = step zero (λ above. absurd (omega arith))
  done_from_minimum (suc minimum) =
      let rest = done_from_minimum minimum in
      step (suc minimum) (λ above. let e : suc minimum - 1 ≡ minimum = omega arith in rw e rest)

  -- The descent has a total, at most the step limit for each search from the start down to the floor,
  pub descent_ends : (t : ℕ) × IsTotal S floor t × (t ≤ suc (start_of (rules_of P) floor - floor) * limit)
  descent_ends =
      let start = start_of (rules_of P) floor in
      let end = done_from_minimum start in
      let least = ends_exist (descent_after S floor) is_done (descents_stay S floor (fresh_at start)) end.0 end.1 in
      (least.0, ends_total S floor least.1, omega (arith, least.2, end.2))

  -- and only one.
  pub descent_total_unique : {t u : ℕ} → IsTotal S floor t → IsTotal S floor u → t ≡ u
  descent_total_unique a b =
      ends_unique (descent_after S floor) is_done (descents_stay S floor (fresh_at (start_of (rules_of P) floor))) (total_ends S floor a) (total_ends S floor b)

  -- So its total is at most that.
  pub descent_limit : {t : ℕ} → IsTotal S floor t → t ≤ suc (start_of (rules_of P) floor - floor) * limit
  descent_limit total = let end = descent_ends in omega (arith, descent_total_unique total end.1, end.2)
