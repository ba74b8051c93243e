-- Depth-first branch and bound: the list of open nodes, one step, the state after k steps, the ceiling.
use Rattle.std.specs.Prelude.{◌≡◌, cond, List, [], ◌∷◌, ◌++◌, ℕ, zero, suc, ◌+◌, ◌<◌, max, ltb}
use Rattle.std.proofs.Math.Option.{Option, none, some}
use Rattle.branch_bound.specs.Tree.{Tree}

module _ (T : Tree) where
  pub record State : Type 0 where
    -- the open nodes, the next one first
    pub nodes : List T.Node
    -- the best solution found so far
    pub incumbent : Option T.Node

  abbrev pub state : List T.Node → Option T.Node → State
  state nodes incumbent = record { nodes = nodes; incumbent = incumbent }

  -- what a node must reach: one more than the incumbent, or the minimum
  abbrev pub cutoff : ℕ → Option T.Node → ℕ
  cutoff minimum none = minimum
  cutoff minimum (some s) = T.size s + 1

  -- the first open node is visited: dropped below the cutoff; held if it is a solution that may be held; else its children take its place
  abbrev pub visit_node : ℕ → Option T.Node → T.Node → List T.Node → State
  visit_node minimum incumbent n rest =
      cond (ltb (T.bound n) (cutoff minimum incumbent)) (state rest incumbent)
      (cond (T.last n) (state rest (cond (T.admits n) (some n) incumbent))
      (state (T.children n ++ rest) incumbent))

  abbrev pub step_on : ℕ → Option T.Node → List T.Node → State
  step_on minimum incumbent [] = state [] incumbent
  step_on minimum incumbent (n ∷ rest) = visit_node minimum incumbent n rest

  abbrev pub step : ℕ → State → State
  step minimum s = step_on minimum s.incumbent s.nodes

  unfoldable pub after : ℕ → T.Node → ℕ → State
  after minimum root zero = state (root ∷ []) none
  after minimum root (suc k) = step minimum (after minimum root k)

  -- one more than the greatest bound of the nodes, 0 if there are none
  unfoldable pub top_bound : List T.Node → ℕ
  top_bound [] = 0
  top_bound (n ∷ ns) = max (T.bound n + 1) (top_bound ns)

  -- above every solution that may be held
  unfoldable pub ceiling : ℕ → State → ℕ
  ceiling minimum s = max (cutoff minimum s.incumbent) (top_bound s.nodes)

  -- finished after t steps and after no fewer
  pub record IsTotal (minimum : ℕ) (root : T.Node) (t : ℕ) : Type 0 where
    pub finished : (after minimum root t).nodes ≡ []
    pub busy : (k : ℕ) → k < t → (after minimum root k).nodes ≡ [] → ⊥
