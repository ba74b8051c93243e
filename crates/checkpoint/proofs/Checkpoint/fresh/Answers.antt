-- `checkpoint::Checkpoint::fresh` meets its contract. Assumes nothing.
use mathlib.Core.Path.{refl}
use Rattle.checkpoint.specs.Checkpoints.{checkpoint_of}
use Rattle.checkpoint.proofs.Checkpoint.fresh.Goals as goal

pub returns : goal.returns
unfolding checkpoint_of
returns c = refl
