-- How the walk counts: k visits make k steps until the total, from which on nothing changes, and the total is branch and bound's.
use mathlib.Core.Path.{◌≡◌, refl, sym, subst, ◌∙◌}
use mathlib.Core.Logic.{◌↔◌}
use mathlib.Core.Bool.{Bool, true, false, cond, true≢false, false≢true}
use mathlib.Core.Option.{Option, some}
use mathlib.Core.List.{List, [], ◌∷◌, cons-ne-nil}
use Prim.Native.Nat.{ℕ, suc, ◌+◌, ◌≤◌, min}
use native.Mathlib.Omega.{arith}
use lib.Dec.{ltb}
use lib.ListN.{length}
use Rattle.bounded.proofs.Endings.{Ends, done_stays, done_from, capped, counts, ends_unique}
use Rattle.branch_bound.specs.Tree.{Lawful}
use Rattle.branch_bound.specs.Search as BranchBound
use Rattle.branch_bound.proofs.Ends as Ends
use Rattle.mapping.specs.Common.{unmapped}
use Rattle.mapping.specs.Order.{Before}
use Rattle.search_tree.specs.Search.{Search}
use Rattle.search_tree.specs.Node.{upper_bound, is_last, children, later_siblings, open_nodes}
use Rattle.search_tree.specs.Trees.{tree, open_state}
use Rattle.search_tree.specs.Walk.{State, cutoff, go_on, visit_path, visit, after, IsTotal}
use Rattle.search_tree.proofs.Simulation.{after_search}

-- the count does not depend on which node is next
go_on_steps : (steps : ℕ) (incumbent : Option (List ℕ)) (nodes : List (List ℕ)) → (go_on steps incumbent nodes).steps ≡ steps
go_on_steps steps incumbent [] = refl
go_on_steps steps incumbent (path ∷ rest) = refl

module _ (S : Search) (minimum : ℕ) where
  visit_path_steps : (steps : ℕ) (path : List ℕ) (incumbent : Option (List ℕ)) → (visit_path S minimum steps path incumbent).steps ≡ steps
  unfolding visit_path
  visit_path_steps steps path incumbent = go (ltb (upper_bound S.rules path) (cutoff minimum incumbent)) (is_last S.rules path)
    where
      later : List (List ℕ)
      later = later_siblings S.rules path (length path)

      go : (low final : Bool)
          → (cond low (go_on steps incumbent later)
          (cond final (go_on steps (cond (S.admits path) (some path) incumbent) later) (go_on steps incumbent (children S.rules path)))).steps ≡ steps
      go true final = go_on_steps steps incumbent later
      go false true = go_on_steps steps (cond (S.admits path) (some path) incumbent) later
      go false false = go_on_steps steps incumbent (children S.rules path)

  -- A visit of an unfinished search is one step.
  pub visit_steps : (s : State) → s.finished ≡ false → (visit S minimum s).steps ≡ s.steps + 1
  unfolding visit
  visit_steps s busy = rw busy (visit_path_steps (s.steps + 1) s.path s.incumbent)

  -- A visit leaves a finished search as it is.
  pub visit_finished : (s : State) → s.finished ≡ true → visit S minimum s ≡ s
  unfolding visit
  visit_finished s end = rw end

  -- the walk goes on until it is finished, and then stays
  abbrev is_finished : State → Bool
  is_finished s = s.finished

  stays : (k : ℕ) → (after S minimum k).finished ≡ true → after S minimum (suc k) ≡ after S minimum k
  unfolding after
  stays k end = visit_finished (after S minimum k) end

  -- a visit more is a step more until then
  step_more : (k : ℕ) → (after S minimum (suc k)).steps ≡ (after S minimum k).steps + cond (after S minimum k).finished 0 1
  unfolding after
  step_more k = go (after S minimum k).finished refl
    where
      go : (b : Bool) → (after S minimum k).finished ≡ b → (visit S minimum (after S minimum k)).steps ≡ (after S minimum k).steps + cond b 0 1
      go true e = rw (visit_finished (after S minimum k) e) (omega arith)
      go false e = visit_steps (after S minimum k) e

  module _ {t : ℕ} (total : IsTotal S minimum t) where
    ends : Ends (after S minimum) is_finished stays t
    ends = record { ended = total.ended; busy = total.busy }

    -- The search is finished exactly from the total on.
    pub finished_from : (k : ℕ) → ((after S minimum k).finished ≡ true) ↔ (t ≤ k)
    finished_from k = done_from (after S minimum) is_finished stays ends k

    -- From the total on nothing changes,
    pub unchanged_after : (k : ℕ) → t ≤ k → after S minimum k ≡ after S minimum t
    unchanged_after k h = done_stays (after S minimum) is_finished stays t k total.ended h

    -- so that visits above it need not be counted.
    pub capped_after : (k : ℕ) → after S minimum (min t k) ≡ after S minimum k
    capped_after k = capped (after S minimum) is_finished stays ends k

    -- k visits make k steps, or as many as the total if that is less.
    pub steps_total : (k : ℕ) → (after S minimum k).steps ≡ min k t
    unfolding after
    steps_total k = omega (arith, counts (after S minimum) is_finished stays ends (λ k. (after S minimum k).steps) refl step_more k)

    -- Up to the total k visits make k steps.
    pub steps_before : (k : ℕ) → k ≤ t → (after S minimum k).steps ≡ k
    steps_before k h = omega (arith, steps_total k)

  -- There is one total.
  pub total_unique : {t u : ℕ} → IsTotal S minimum t → IsTotal S minimum u → t ≡ u
  total_unique a b = ends_unique (after S minimum) is_finished stays (ends a) (ends b)

-- A search is finished exactly where no node is open.
pub finished_none_open : (S : Search) (s : State) → (s.finished ≡ true) ↔ ((open_state S s).nodes ≡ [])
unfolding open_nodes
finished_none_open S s = go s.finished s.path
  where
    go : (finished : Bool) (path : List ℕ) → (finished ≡ true) ↔ (cond finished [] (open_nodes S.rules path) ≡ [])
    go true path = (λ e. refl, λ e. refl)
    go false path = (λ e. absurd (false≢true e), λ e. absurd (cons-ne-nil _ _ e))

module _ (S : Search) (few : S.rules.values ≤ unmapped) (minimum : ℕ) where
  -- The walk is finished exactly when branch and bound is.
  pub finished_search : (k : ℕ) → ((after S minimum k).finished ≡ true) ↔ ((BranchBound.after (tree S) minimum [] k).nodes ≡ [])
  finished_search k =
      subst (λ (x : BranchBound.State (tree S)). ((after S minimum k).finished ≡ true) ↔ (x.nodes ≡ [])) (after_search S few minimum k)
      (finished_none_open S (after S minimum k))

  -- The walk's total is branch and bound's.
  pub total_search : (t : ℕ) → IsTotal S minimum t ↔ BranchBound.IsTotal (tree S) minimum [] t
  total_search t = (
    λ total. record {
      finished = (finished_search t).0 total.ended;
      busy = λ k h e. true≢false (sym ((finished_search k).1 e) ∙ total.busy k h);
    },
    λ total. record {
      ended = (finished_search t).1 total.finished;
      busy = λ k h. unfinished (after S minimum k).finished (λ e. total.busy k h ((finished_search k).0 e));
    },
  )
    where
      unfinished : (b : Bool) → (b ≡ true → ⊥) → b ≡ false
      unfinished true n = absurd (n refl)
      unfinished false n = refl

  -- The walk ends: it has a total, at most the weight of the root.
  pub total_exists : {weight : List ℕ → ℕ} → Lawful (tree S) weight Before → (t : ℕ) × IsTotal S minimum t × (t ≤ weight [])
  total_exists L =
      let end = Ends.total_exists L minimum [] in
      (end.0, (total_search end.0).1 end.1, end.2)
