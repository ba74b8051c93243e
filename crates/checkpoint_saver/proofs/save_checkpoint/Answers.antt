-- `checkpoint_saver::save_checkpoint` meets its contract: the checkpoint is checked first. Assumes nothing.
use borrow.Author.Rules.{rules}
use mathlib.Core.Path.{sym}
use native.Mathlib.Omega.{arith}
use Rattle.std.proofs.lemmas.Result.{err_from_is_err_and}
use Rattle.problem.specs.Lent.{lent}
use Rattle.checkpoint.proofs.CheckpointPasses.{passes_shape}
use Rattle.checkpoint_saver.specs.Saving.{saving}
use Rattle.checkpoint_saver.proofs.save_checkpoint.Goals as goal

pub returns-in_err-check : goal.returns-in_err-check
unfolding saving
returns-in_err-check c =
    let told = err_from_is_err_and c.from_residual.result c.from_residual.ensures.1 in
    rw (told.1, told.2, ← c.in_err-check.ensures)

pub save_in_shape-requires : goal.save_in_shape-requires
save_in_shape-requires c =
    let fine = passes_shape c.args.connected (lent c.args.problem) c.args.checkpoint (sym c.in_ok-check.ensures) in
    let few = fine.0.old_sound.order_max in
    (few, omega (arith, few, fine.1.depth_max), search rules, search rules)

pub returns : goal.returns
unfolding saving
returns c = rw (← c.in_ok-check.ensures) c.save_in_shape.ensures
