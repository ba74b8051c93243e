-- `c_api::golfcedar_clique` meets its contract: the graphs are read, then clique_reply on (`ReadArms`). Assumes nothing.
use mathlib.Core.Path.{ap, ◌∙◌}
use Rattle.problem.specs.Problem.{Problem}
use Rattle.replies.specs.declared.Reply.{Reply}
use Rattle.replies.specs.CliqueReply.{clique_reply, branch_reply}
use Rattle.c_api.proofs.ReadArms.{clique_refused, clique_read}
use Rattle.c_api.proofs.GraphsRead.{graphs_refused, graphs_read}
use Rattle.c_api.proofs.golfcedar_clique.Goals as goal

pub returns-in-Err : goal.returns-in-Err
returns-in-Err c = clique_refused _ _ _ _ _ _ _ (c.tell.ensures ∙ c.refused-reply.ensures) (graphs_refused _ _ c.empty-graphs.ensures c.read.result c.read.ensures _ c.in-Err.is)

pub returns-in-Ok : goal.returns-in-Ok
returns-in-Ok c =
    let a = c.args in
    let f = c.branch-found in
    ap (λ (r : Reply). clique_reply r f.result.size f.new.mapping) c.tell-in-Ok.ensures
    ∙ clique_read _ _ _ _ _ _ (graphs_read _ _ c.empty-graphs.ensures c.read.result c.read.ensures _ _ c.in-Ok.is) _
    (f.ensures ∙ ap (λ (P : Problem). branch_reply P a.minimum a.mapping.now) c.problem-problem.ensures)
