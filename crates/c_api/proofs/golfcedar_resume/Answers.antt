-- `c_api::golfcedar_resume` meets its contract: the graphs are read, and the search goes on (`ReadArms`). Assumes nothing.
use mathlib.Core.Path.{ap, ◌∙◌}
use Rattle.problem.specs.Problem.{Problem}
use Rattle.replies.specs.declared.Reply.{Reply}
use Rattle.c_api.specs.Calls.{asked}
use Rattle.replies.specs.Resumed.{resumed, resume_from}
use Rattle.c_api.proofs.ReadArms.{resume_refused, resume_read}
use Rattle.c_api.proofs.GraphsRead.{graphs_refused, graphs_read}
use Rattle.c_api.proofs.golfcedar_resume.Goals as goal

pub returns-in-Err : goal.returns-in-Err
returns-in-Err c = resume_refused _ _ _ _ _ _ _ _ _ _ (c.tell.ensures ∙ c.refused-reply.ensures) (graphs_refused _ _ c.empty-graphs.ensures c.read.result c.read.ensures _ c.in-Err.is)

pub returns-in-Ok : goal.returns-in-Ok
returns-in-Ok c =
    let a = c.args in
    ap (λ (r : Reply). resumed r c.resume-resumed.result.ceiling c.resume-resumed.new.workspace c.resume-resumed.new.next) c.tell-in-Ok.ensures
    ∙ resume_read _ _ _ _ _ _ _ _ _ (graphs_read _ _ c.empty-graphs.ensures c.read.result c.read.ensures _ _ c.in-Ok.is) c.resume-resumed.result _ _
    (c.resume-resumed.ensures ∙ ap (λ (P : Problem). resume_from (asked a.connected) P a.checkpoint.now a.budget a.workspace.now a.next.now) c.problem-problem.ensures)
