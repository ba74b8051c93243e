-- The ceiling of a descent, from its search's: that one where more than the minimum is held, else at most one above the minimum.
use mathlib.Core.Path.{◌≡◌}
use mathlib.Core.Bool.{true, false}
use mathlib.Core.List.{List}
use mathlib.Core.Option.{Option}
use Prim.Native.Nat.{ℕ, ◌+◌, ◌≤◌, ◌<◌, min}
use lib.ListN.{take}
use borrow.Author.Tests.{lt-ltb, le-ltb}
use Rattle.mapping.specs.Common.{size}
use Rattle.search_tree.specs.Walk.{cutoff}
use Rattle.checkpoint.specs.declared.Checkpoint.{Checkpoint}
use Rattle.checkpoint.specs.Checkpoints.{state_of}
use Rattle.descend.specs.Descent.{lowered}

-- More than the minimum is held.
pub lowered_own : (minimum : ℕ) (incumbent : Option (List ℕ)) (top : ℕ) → minimum + 1 < cutoff minimum incumbent → lowered minimum incumbent top ≡ top
lowered_own minimum incumbent top more = rw (lt-ltb _ _ more)

-- No more is held.
pub lowered_min : (minimum : ℕ) (incumbent : Option (List ℕ)) (top : ℕ) → cutoff minimum incumbent ≤ minimum + 1
    → lowered minimum incumbent top ≡ min (minimum + 1) top
lowered_min minimum incumbent top few = rw (le-ltb _ _ few)

module _ (n : ℕ) (c : Checkpoint) where
  -- the cutoff of a checkpoint's state, by what it says of an incumbent
  pub held_cutoff : c.holds ≡ true → cutoff c.minimum (state_of n c).incumbent ≡ size (take n c.incumbent) + 1
  unfolding state_of
  held_cutoff e = rw e

  pub none_cutoff : c.holds ≡ false → cutoff c.minimum (state_of n c).incumbent ≡ c.minimum
  unfolding state_of
  none_cutoff e = rw e
