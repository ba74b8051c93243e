-- `c_api::golfcedar_read_out` meets its contract: the graphs are read, and the checkpoint is read out (`ReadArms`). Assumes nothing.
use mathlib.Core.Path.{ap, ◌∙◌}
use Rattle.problem.specs.Problem.{Problem}
use Rattle.replies.specs.declared.Reply.{Reply}
use Rattle.c_api.specs.Calls.{asked}
use Rattle.replies.specs.ReadOut.{read_out, read_bytes}
use Rattle.c_api.proofs.ReadArms.{read_out_refused, read_out_read}
use Rattle.c_api.proofs.GraphsRead.{graphs_refused, graphs_read}
use Rattle.c_api.proofs.golfcedar_read_out.Goals as goal

pub returns-in-Err : goal.returns-in-Err
returns-in-Err c = read_out_refused _ _ _ _ _ _ _ _ (c.tell.ensures ∙ c.refused-reply.ensures) (graphs_refused _ _ c.empty-graphs.ensures c.read.result c.read.ensures _ c.in-Err.is)

pub returns-in-Ok : goal.returns-in-Ok
returns-in-Ok c =
    let a = c.args in
    let o = c.read_out-out in
    ap (λ (r : Reply). read_out r o.result.steps o.result.size o.result.ceiling o.new.mapping) c.tell-in-Ok.ensures
    ∙ read_out_read _ _ _ _ _ _ _ (graphs_read _ _ c.empty-graphs.ensures c.read.result c.read.ensures _ _ c.in-Ok.is) _
    (o.ensures ∙ ap (λ (P : Problem). read_bytes (asked a.connected) P a.checkpoint.now a.mapping.now) c.problem-problem.ensures)
