-- A call leaves a checkpoint in shape in shape, also one that no call left (01, "Bookmark and calls", second paragraph).
use mathlib.Core.Path.{◌≡◌}
use mathlib.Core.Bool.{Bool}
use mathlib.Core.List.{List}
use Prim.Native.Nat.{ℕ, zero, suc}
use lib.ListN.{length}
use Rattle.problem.specs.Problem.{Problem, SoundProblem}
use Rattle.search_tree.specs.Search.{Search, search_of}
use Rattle.search_tree.specs.Walk.{State}
use Rattle.search_tree.specs.Shape.{Shape}
use Rattle.search_tree.proofs.Shape.{visit_shape}
use Rattle.checkpoint.specs.declared.Checkpoint.{Checkpoint}
use Rattle.checkpoint.specs.Checkpoints.{state_of, InShape}
use Rattle.checkpoint.proofs.StateShape.{checkpoint_in_shape, state_in_shape}
use Rattle.search.specs.Call.{visits, advance}

-- Visits keep the shape of a state.
pub visits_shape : (S : Search) (minimum k : ℕ) (s : State) → Shape S minimum s → Shape S minimum (visits S minimum k s)
unfolding visits
visits_shape S minimum zero s shape = shape
visits_shape S minimum (suc k) s shape = visit_shape S minimum (visits S minimum k s) (visits_shape S minimum k s shape)

module _ (connected : Bool) (P : Problem) (sound : SoundProblem P) (c : Checkpoint) (path_long : length c.path ≡ 64) (shape : InShape connected P c) where
  -- The checkpoint that an accepted call leaves is in shape.
  pub advance_in_shape : (budget : ℕ) (workspace : List ℕ) → InShape connected P (advance connected P c budget workspace).checkpoint
  unfolding advance
  advance_in_shape budget workspace =
      checkpoint_in_shape connected P sound c.minimum _ (visits_shape (search_of connected P) c.minimum budget (state_of P.old.order c) (state_in_shape connected P sound c path_long shape))
