-- `c_api::golfcedar_descend_resume` meets its contract: the graphs are read, and the descent goes on (`ReadArms`). Assumes nothing.
use mathlib.Core.Path.{ap, ◌∙◌}
use Rattle.problem.specs.Problem.{Problem}
use Rattle.replies.specs.declared.Reply.{Reply}
use Rattle.c_api.specs.Calls.{asked}
use Rattle.descent_replies.specs.DescentReply.{descent_reply, descend_bytes}
use Rattle.c_api.proofs.ReadArms.{descend_refused, descend_read}
use Rattle.c_api.proofs.GraphsRead.{graphs_refused, graphs_read}
use Rattle.c_api.proofs.golfcedar_descend_resume.Goals as goal

pub returns-in-Err : goal.returns-in-Err
returns-in-Err c = descend_refused _ _ _ _ _ _ _ _ _ _ _ (c.tell.ensures ∙ c.refused-reply.ensures) (graphs_refused _ _ c.empty-graphs.ensures c.read.result c.read.ensures _ c.in-Err.is)

pub returns-in-Ok : goal.returns-in-Ok
returns-in-Ok c =
    let a = c.args in
    let d = c.descend-descended in
    ap (λ (r : Reply). descent_reply r d.result.ceiling d.result.visits d.new.workspace d.new.next) c.tell-in-Ok.ensures
    ∙ descend_read _ _ _ _ _ _ _ _ _ _ (graphs_read _ _ c.empty-graphs.ensures c.read.result c.read.ensures _ _ c.in-Ok.is) _
    (d.ensures ∙ ap (λ (P : Problem). descend_bytes (asked a.connected) P a.floor a.checkpoint.now a.budget a.workspace.now a.next.now) c.problem-problem.ensures)
