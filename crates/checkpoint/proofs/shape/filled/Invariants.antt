-- `checkpoint::shape::filled` meets its contract: the entries from the depth to the place are 255, and the others are the path's (`FilledPath`).
-- Assumes nothing.
use mathlib.Core.Path.{◌≡◌}
use Prim.Native.Nat.{◌-◌, ◌≤◌}
use Rattle.checkpoint.proofs.FilledPath.{filled_until}
use Rattle.checkpoint.proofs.shape.filled.Given as goal

abbrev pub invariant-loop-i : goal.invariant-loop-i
invariant-loop-i l = (l.depth ≤ l.i) × (l.i - l.depth ≤ 64 - l.depth) × (l.entries ≡ filled_until l.initial.entries l.depth l.i)
