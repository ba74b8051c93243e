-- `checkpoint::Checkpoint::rest_fits` meets its contract: the places passed have passed the test (`UnusedBytes`).
-- Assumes nothing.
use mathlib.Core.Path.{◌≡◌}
use mathlib.Core.Bool.{cond}
use Rattle.bounded.proofs.AllBelow.{PassedTo}
use Rattle.checkpoint.specs.Checkpoints.{rest_fits}
use Rattle.checkpoint.proofs.UnusedBytes.{with_bytes}
use Rattle.checkpoint.proofs.Checkpoint.rest_fits.Given as goal

abbrev pub invariant-loop-i : goal.invariant-loop-i
invariant-loop-i l =
    (l.used ≡ cond l.holds l.order 0) × PassedTo 64 (rest_fits l.order (with_bytes l.depth l.holds l.path l.incumbent)) l.i
