-- What the walk finds, for any search: what is held is a solution, every solution is below the ceiling, and at the total the best is held.
use mathlib.Core.Path.{◌≡◌, sym, ap, ◌∙◌}
use mathlib.Core.Bool.{true}
use mathlib.Core.List.{List, []}
use mathlib.Core.Option.{Option, some}
use Prim.Native.Nat.{ℕ, ◌≤◌, ◌<◌}
use Rattle.branch_bound.specs.Tree.{Under, Lawful}
use Rattle.branch_bound.specs.Search as BranchBound
use Rattle.branch_bound.specs.Best.{Candidate, Best as BestNode}
use Rattle.branch_bound.proofs.Bounds as Bounds
use Rattle.branch_bound.proofs.Best as BestNodes
use Rattle.mapping.specs.Common.{unmapped, size}
use Rattle.mapping.specs.Order.{Before}
use Rattle.search_tree.specs.Search.{Search}
use Rattle.search_tree.specs.Trees.{tree}
use Rattle.search_tree.specs.Walk.{cutoff, after, IsTotal}
use Rattle.search_tree.specs.Ceiling.{ceiling}
use Rattle.search_tree.specs.Best.{Best}
use Rattle.search_tree.proofs.Simulation.{after_search}
use Rattle.search_tree.proofs.Steps.{finished_search}
use Rattle.search_tree.proofs.Ceiling.{ceiling_after}

-- a last node of the tree that may be held
pub record Solution (S : Search) (l : List ℕ) : Type 0 where
  pub under : Under (tree S) [] l
  pub admitted : S.admits l ≡ true

-- what is best for branch and bound is best among the solutions
best_solution : (S : Search) (minimum : ℕ) (incumbent : Option (List ℕ)) → BestNode (tree S) minimum Before [] incumbent → Best (Solution S) minimum incumbent
best_solution S minimum incumbent b = record {
  none_reaches = λ e l s. b.none_reaches e l s.under s.admitted;
  good = λ h e. let c = b.candidate h e in record { under = c.under; admitted = c.admitted };
  reaches = λ h e. (b.candidate h e).reaches;
  largest = λ h e l s. b.largest h e l s.under s.admitted;
  first = λ h e l s. b.first h e l s.under s.admitted;
}

module _ (S : Search) (few : S.rules.values ≤ unmapped) (minimum : ℕ) where
  -- The walk holds what branch and bound holds.
  pub incumbent_search : (k : ℕ) → (after S minimum k).incumbent ≡ (BranchBound.after (tree S) minimum [] k).incumbent
  incumbent_search k = ap (λ (x : BranchBound.State (tree S)). x.incumbent) (after_search S few minimum k)

  -- The walk's cutoff is branch and bound's.
  pub cutoff_after : (k : ℕ)
      → cutoff minimum (after S minimum k).incumbent ≡ BranchBound.cutoff (tree S) minimum (BranchBound.after (tree S) minimum [] k).incumbent
  cutoff_after k = ap (cutoff minimum) (incumbent_search k)

  module _ {weight : List ℕ → ℕ} (L : Lawful (tree S) weight Before) where
    -- What is held is a last node under the root that may be held and reaches the minimum.
    pub incumbent_candidate : (k : ℕ) (h : List ℕ) → (after S minimum k).incumbent ≡ some h → Candidate (tree S) minimum [] h
    incumbent_candidate k h e = BestNodes.incumbent_candidate L minimum [] k h (sym (incumbent_search k) ∙ e)

    -- Every solution is below the ceiling.
    pub solution_below : (k : ℕ) (l : List ℕ) → Solution S l → size l < ceiling S.rules minimum (after S minimum k)
    solution_below k l s = rw (ceiling_after S few minimum k) (Bounds.below_ceiling L minimum [] k l s.under s.admitted)

    -- The cutoff never falls.
    pub cutoff_rises : (k j : ℕ) → k ≤ j → cutoff minimum (after S minimum k).incumbent ≤ cutoff minimum (after S minimum j).incumbent
    cutoff_rises k j h = rw (cutoff_after k, cutoff_after j) (Bounds.cutoff_rises L minimum [] k j h)

    -- The ceiling never rises.
    pub ceiling_falls : (k j : ℕ) → k ≤ j → ceiling S.rules minimum (after S minimum j) ≤ ceiling S.rules minimum (after S minimum k)
    ceiling_falls k j h = rw (ceiling_after S few minimum k, ceiling_after S few minimum j) (Bounds.ceiling_falls L minimum [] k j h)

    -- A finished walk holds the best solution.
    pub finished_best : (k : ℕ) → (after S minimum k).finished ≡ true → Best (Solution S) minimum (after S minimum k).incumbent
    finished_best k end =
        rw (incumbent_search k) (best_solution S minimum _ (BestNodes.finished_best L minimum [] k ((finished_search S few minimum k).0 end)))

    -- At the total the best solution is held.
    pub total_best : {t : ℕ} → IsTotal S minimum t → Best (Solution S) minimum (after S minimum t).incumbent
    total_best {t} total = finished_best t total.ended
