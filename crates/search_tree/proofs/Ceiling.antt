-- The ceiling of a state of the walk is the one that branch and bound has there.
use mathlib.Core.Path.{◌≡◌, ap, ◌∙◌}
use mathlib.Core.Bool.{Bool, true, false, cond}
use mathlib.Core.Option.{Option}
use mathlib.Core.List.{List, [], ◌∷◌}
use Prim.Native.Nat.{ℕ, ◌≤◌, max}
use native.Mathlib.Omega.{arith}
use Rattle.branch_bound.specs.Search as BranchBound
use Rattle.mapping.specs.Common.{unmapped}
use Rattle.search_tree.specs.Search.{Search}
use Rattle.search_tree.specs.Node.{open_nodes}
use Rattle.search_tree.specs.Trees.{tree, open_state}
use Rattle.search_tree.specs.Walk.{State, cutoff, after}
use Rattle.search_tree.specs.Ceiling.{top_bound, ceiling}
use Rattle.search_tree.proofs.Simulation.{after_search}

module _ (S : Search) where
  top_bound_search : (nodes : List (List ℕ)) → top_bound S.rules nodes ≡ BranchBound.top_bound (tree S) nodes
  unfolding top_bound BranchBound.top_bound
  top_bound_search [] = omega arith
  top_bound_search (path ∷ rest) = omega (arith, top_bound_search rest)

  -- A state's ceiling is that of branch and bound's state.
  pub ceiling_search : (minimum : ℕ) (s : State) → ceiling S.rules minimum s ≡ BranchBound.ceiling (tree S) minimum (open_state S s)
  unfolding ceiling BranchBound.ceiling BranchBound.top_bound
  ceiling_search minimum s = go s.finished (open_nodes S.rules s.path) s.incumbent
    where
      go : (finished : Bool) (nodes : List (List ℕ)) (incumbent : Option (List ℕ))
          → cond finished (cutoff minimum incumbent) (max (cutoff minimum incumbent) (top_bound S.rules nodes))
          ≡ max (BranchBound.cutoff (tree S) minimum incumbent) (BranchBound.top_bound (tree S) (cond finished [] nodes))
      go true nodes incumbent = omega arith
      go false nodes incumbent = omega (arith, top_bound_search nodes)

  -- The walk's ceiling after k visits is branch and bound's after k steps.
  pub ceiling_after : S.rules.values ≤ unmapped → (minimum k : ℕ)
      → ceiling S.rules minimum (after S minimum k) ≡ BranchBound.ceiling (tree S) minimum (BranchBound.after (tree S) minimum [] k)
  ceiling_after few minimum k = ceiling_search minimum (after S minimum k) ∙ ap (BranchBound.ceiling (tree S) minimum) (after_search S few minimum k)
