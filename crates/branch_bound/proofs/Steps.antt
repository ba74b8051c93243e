-- One step of the search by its cases, and induction over the steps.
use mathlib.Core.Path.{◌≡◌, refl}
use mathlib.Core.Bool.{Bool, true, false, cond}
use mathlib.Core.Option.{Option, none, some}
use mathlib.Core.List.{List, [], ◌∷◌, ◌++◌}
use Prim.Native.Nat.{ℕ, zero, suc, ◌≤◌, ◌<◌}
use native.Mathlib.Nat.{le_refl, le_trans}
use native.Mathlib.Decide.{le_ind}
use lib.Dec.{ltb}
use borrow.Author.Tests.{ltb-true, ltb-false}
use Rattle.branch_bound.specs.Tree.{Tree}
use Rattle.branch_bound.specs.Search.{State, state, cutoff, visit_node, step_on, step, after}

module _ (T : Tree) (minimum : ℕ) where
  -- R holds of the next state, whatever becomes of the visited node n
  pub record Outcomes (R : State T → Type 0) (incumbent : Option T.Node) (n : T.Node) (rest : List T.Node) : Type 0 where
    -- it cannot reach the cutoff
    pub dropped : T.bound n < cutoff T minimum incumbent → R (state T rest incumbent)
    -- it is a solution that may not be held
    pub refused : cutoff T minimum incumbent ≤ T.bound n → T.last n ≡ true → T.admits n ≡ false → R (state T rest incumbent)
    -- it is a solution that may be held
    pub taken : cutoff T minimum incumbent ≤ T.bound n → T.last n ≡ true → T.admits n ≡ true → R (state T rest (some n))
    -- it is no solution
    pub opened : cutoff T minimum incumbent ≤ T.bound n → T.last n ≡ false → R (state T (T.children n ++ rest) incumbent)

  -- What holds of each outcome of a visit holds after the visit.
  pub visit_cases : (R : State T → Type 0) (incumbent : Option T.Node) (n : T.Node) (rest : List T.Node)
      → Outcomes R incumbent n rest → R (visit_node T minimum incumbent n rest)
  visit_cases R incumbent n rest o =
      go (ltb (T.bound n) (cutoff T minimum incumbent)) (T.last n) (T.admits n) refl refl refl
    where
      go : (low final fit : Bool) → ltb (T.bound n) (cutoff T minimum incumbent) ≡ low → T.last n ≡ final → T.admits n ≡ fit
          → R (cond low (state T rest incumbent)
          (cond final (state T rest (cond fit (some n) incumbent))
          (state T (T.children n ++ rest) incumbent)))
      go true final fit p q r = o.dropped (ltb-true _ _ p)
      go false true true p q r = o.taken (ltb-false _ _ p) q r
      go false true false p q r = o.refused (ltb-false _ _ p) q r
      go false false fit p q r = o.opened (ltb-false _ _ p) q

  -- What relates a finished state to itself, and a state with an open node to each outcome of its visit, relates each state to the next.
  pub step_cases : (R : State T → State T → Type 0)
      → ((incumbent : Option T.Node) → R (state T [] incumbent) (state T [] incumbent))
      → ((incumbent : Option T.Node) (n : T.Node) (rest : List T.Node) → Outcomes (R (state T (n ∷ rest) incumbent)) incumbent n rest)
      → (s : State T) → R s (step T minimum s)
  step_cases R finished visited s = go s.nodes s.incumbent
    where
      go : (nodes : List T.Node) (incumbent : Option T.Node) → R (state T nodes incumbent) (step_on T minimum incumbent nodes)
      go [] incumbent = finished incumbent
      go (n ∷ rest) incumbent = visit_cases (R (state T (n ∷ rest) incumbent)) incumbent n rest (visited incumbent n rest)

  module _ (root : T.Node) where
    -- What holds at the start and is kept by every step holds after every number of steps.
    pub after_keeps : (I : State T → Type 0) → I (state T (root ∷ []) none) → ((s : State T) → I s → I (step T minimum s))
        → (k : ℕ) → I (after T minimum root k)
    unfolding after
    after_keeps I start kept zero = start
    after_keeps I start kept (suc k) = kept (after T minimum root k) (after_keeps I start kept k)

    -- A number that no step lowers is never lower later.
    pub after_rises : (f : State T → ℕ) → ((s : State T) → f s ≤ f (step T minimum s))
        → (k j : ℕ) → k ≤ j → f (after T minimum root k) ≤ f (after T minimum root j)
    unfolding after
    after_rises f rises k = le_ind (λ j. f (after T minimum root k) ≤ f (after T minimum root j))
        (le_refl (f (after T minimum root k)))
        (λ j h below. le_trans below (rises (after T minimum root j)))

    -- A number that no step raises is never higher later.
    pub after_falls : (f : State T → ℕ) → ((s : State T) → f (step T minimum s) ≤ f s)
        → (k j : ℕ) → k ≤ j → f (after T minimum root j) ≤ f (after T minimum root k)
    unfolding after
    after_falls f falls k = le_ind (λ j. f (after T minimum root j) ≤ f (after T minimum root k))
        (le_refl (f (after T minimum root k)))
        (λ j h below. le_trans (falls (after T minimum root j)) below)
