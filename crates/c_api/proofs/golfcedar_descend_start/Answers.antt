-- `c_api::golfcedar_descend_start` meets its contract: the graphs are read, and the start's checkpoint is saved (`ReadArms`). Assumes nothing.
use mathlib.Core.Path.{ap, ◌∙◌}
use Rattle.problem.specs.Problem.{Problem}
use Rattle.descent_replies.specs.DescentReply.{save_start}
use Rattle.c_api.specs.Calls.{asked}
use Rattle.c_api.proofs.ReadArms.{descend_start_refused, descend_start_read}
use Rattle.c_api.proofs.GraphsRead.{graphs_refused, graphs_read}
use Rattle.c_api.proofs.golfcedar_descend_start.Goals as goal

pub returns-in-Err : goal.returns-in-Err
returns-in-Err c = descend_start_refused _ _ _ _ _ _ _ _ (c.tell.ensures ∙ c.refused-reply.ensures) (graphs_refused _ _ c.empty-graphs.ensures c.read.result c.read.ensures _ c.in-Err.is)

pub returns-in-Ok : goal.returns-in-Ok
returns-in-Ok c =
    let a = c.args in
    descend_start_read _ _ _ _ _ _
    _ (graphs_read _ _ c.empty-graphs.ensures c.read.result c.read.ensures _ _ c.in-Ok.is)
    _ c.start.result _ (c.tell-in-Ok.ensures ∙ c.of-reply.ensures)
    (c.start.ensures ∙ ap (λ (P : Problem). save_start (asked a.connected) P a.floor a.checkpoint.now) c.problem-problem.ensures)
