-- `descent_replies::start` meets its contract: the checkpoint that is saved is the start's. Assumes nothing.
use mathlib.Core.Path.{ap, ◌∙◌}
use Rattle.problem.specs.Lent.{lent}
use Rattle.checkpoint_saver.specs.Saving.{saving}
use Rattle.descend.specs.Call.{Started}
use Rattle.descent_replies.proofs.start.Goals as goal

pub returns : goal.returns
returns c =
    let a = c.args in
    c.save_checkpoint.ensures
    ∙ ap (λ (s : Started). saving a.connected (lent a.problem) s.checkpoint a.out.now) c.start-started.ensures
