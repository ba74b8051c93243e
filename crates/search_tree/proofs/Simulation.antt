-- The walk is branch and bound on its tree: a visit makes of the open nodes and the incumbent what branch and bound's step makes of them.
use mathlib.Core.Path.{◌≡◌, refl, ap, ◌∙◌}
use mathlib.Core.Bool.{Bool, true, false, cond}
use mathlib.Core.Option.{Option, some}
use mathlib.Core.List.{List, [], ◌∷◌, ◌++◌}
use Prim.Native.Nat.{ℕ, zero, suc, ◌+◌, ◌≤◌}
use native.Mathlib.Nat.{le_refl}
use lib.Dec.{ltb}
use lib.ListN.{length}
use Rattle.branch_bound.specs.Search as BranchBound
use Rattle.mapping.specs.Common.{unmapped}
use Rattle.search_tree.specs.Search.{Search}
use Rattle.search_tree.specs.Node.{upper_bound, is_last, children, later_siblings, open_nodes}
use Rattle.search_tree.specs.Trees.{tree, open_state}
use Rattle.search_tree.specs.Walk.{State, cutoff, go_on, retreat, visit_path, visit, after}
use Rattle.search_tree.proofs.OpenNodes.{siblings_open, children_some, children_open}

module _ (S : Search) where
  -- Both have the same cutoff.
  pub cutoff_same : (minimum : ℕ) (incumbent : Option (List ℕ)) → cutoff minimum incumbent ≡ BranchBound.cutoff (tree S) minimum incumbent
  cutoff_same minimum incumbent = refl

  module _ (few : S.rules.values ≤ unmapped) where
    -- where the node is left, what stood behind it is open
    retreat_search : (steps : ℕ) (path : List ℕ) (incumbent : Option (List ℕ))
        → open_state S (retreat S.rules steps path incumbent) ≡ BranchBound.state (tree S) (later_siblings S.rules path (length path)) incumbent
    retreat_search steps path incumbent = go (later_siblings S.rules path (length path)) refl
      where
        go : (nodes : List (List ℕ)) → later_siblings S.rules path (length path) ≡ nodes
            → open_state S (go_on steps incumbent nodes) ≡ BranchBound.state (tree S) nodes incumbent
        go [] e = refl
        go (p ∷ rest) e =
            ap (λ (nodes : List (List ℕ)). BranchBound.state (tree S) nodes incumbent)
            (siblings_open S.rules few path (length path) (le_refl (length path)) p rest e)

    -- where its children follow, they and what stood behind it are open
    children_search : (steps : ℕ) (path : List ℕ) (incumbent : Option (List ℕ)) → is_last S.rules path ≡ false
        → open_state S (go_on steps incumbent (children S.rules path))
        ≡ BranchBound.state (tree S) (children S.rules path ++ later_siblings S.rules path (length path)) incumbent
    children_search steps path incumbent inner = go (children S.rules path) refl
      where
        go : (nodes : List (List ℕ)) → children S.rules path ≡ nodes
            → open_state S (go_on steps incumbent nodes)
            ≡ BranchBound.state (tree S) (children S.rules path ++ later_siblings S.rules path (length path)) incumbent
        go [] e = absurd (children_some S.rules path inner e)
        go (p ∷ rest) e =
            ap (λ (nodes : List (List ℕ)). BranchBound.state (tree S) nodes incumbent)
            (children_open S.rules few path inner p rest e)

    -- whatever becomes of the visited node
    visit_path_search : (minimum steps : ℕ) (path : List ℕ) (incumbent : Option (List ℕ))
        → open_state S (visit_path S minimum steps path incumbent)
        ≡ BranchBound.visit_node (tree S) minimum incumbent path (later_siblings S.rules path (length path))
    unfolding visit_path
    visit_path_search minimum steps path incumbent = go (ltb (upper_bound S.rules path) (cutoff minimum incumbent)) (is_last S.rules path) refl
      where
        rest : List (List ℕ)
        rest = later_siblings S.rules path (length path)

        go : (low final : Bool) → is_last S.rules path ≡ final
            → open_state S (cond low (retreat S.rules steps path incumbent)
            (cond final (retreat S.rules steps path (cond (S.admits path) (some path) incumbent)) (go_on steps incumbent (children S.rules path))))
            ≡ cond low (BranchBound.state (tree S) rest incumbent)
            (cond final (BranchBound.state (tree S) rest (cond (S.admits path) (some path) incumbent))
            (BranchBound.state (tree S) (children S.rules path ++ rest) incumbent))
        go true final e = retreat_search steps path incumbent
        go false true e = retreat_search steps path (cond (S.admits path) (some path) incumbent)
        go false false e = children_search steps path incumbent e

    -- A visit of the walk is a step of branch and bound.
    pub visit_step : (minimum : ℕ) (s : State) → open_state S (visit S minimum s) ≡ BranchBound.step (tree S) minimum (open_state S s)
    unfolding visit open_nodes
    visit_step minimum s = go s.steps s.path s.finished s.incumbent
      where
        go : (steps : ℕ) (path : List ℕ) (finished : Bool) (incumbent : Option (List ℕ))
            → open_state S (visit S minimum (record { steps = steps; path = path; finished = finished; incumbent = incumbent }))
            ≡ BranchBound.step (tree S) minimum (open_state S (record { steps = steps; path = path; finished = finished; incumbent = incumbent }))
        go steps path true incumbent = refl
        go steps path false incumbent = visit_path_search minimum (steps + 1) path incumbent

    -- The walk after k visits is branch and bound after k steps from the root.
    pub after_search : (minimum k : ℕ) → open_state S (after S minimum k) ≡ BranchBound.after (tree S) minimum [] k
    unfolding after BranchBound.after open_nodes later_siblings
    after_search minimum zero = refl
    after_search minimum (suc k) = visit_step minimum (after S minimum k) ∙ ap (BranchBound.step (tree S) minimum) (after_search minimum k)
