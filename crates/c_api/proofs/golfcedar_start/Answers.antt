-- `c_api::golfcedar_start` meets its contract: the graphs are read, and a fresh checkpoint is saved (`ReadArms`). Assumes nothing.
use mathlib.Core.Path.{ap, ◌∙◌}
use Rattle.problem.specs.Problem.{Problem}
use Rattle.checkpoint_saver.specs.Saving.{saving}
use Rattle.c_api.specs.Calls.{asked}
use Rattle.c_api.proofs.ReadArms.{start_refused, start_read}
use Rattle.c_api.proofs.GraphsRead.{graphs_refused, graphs_read}
use Rattle.c_api.proofs.golfcedar_start.Goals as goal

pub returns-in-Err : goal.returns-in-Err
returns-in-Err c = start_refused _ _ _ _ _ _ _ _ (c.tell.ensures ∙ c.refused-reply.ensures) (graphs_refused _ _ c.empty-graphs.ensures c.read.result c.read.ensures _ c.in-Err.is)

pub returns-in-Ok : goal.returns-in-Ok
returns-in-Ok c =
    let a = c.args in
    start_read _ _ _ _ _ _
    _ (graphs_read _ _ c.empty-graphs.ensures c.read.result c.read.ensures _ _ c.in-Ok.is)
    _ c.save_checkpoint.result _ _ (c.tell-in-Ok.ensures ∙ c.of-reply.ensures)
    (c.save_checkpoint.ensures ∙ ap (λ (P : Problem). saving (asked a.connected) P c.fresh-fresh.result a.checkpoint.now) c.problem-problem.ensures) c.fresh-fresh.ensures
