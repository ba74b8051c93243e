-- `c_api::golfcedar_check_mapping` meets its contract: the graphs are read, then the mapping is checked (`ReadArms`). Assumes nothing.
use mathlib.Core.Path.{ap, ◌∙◌}
use Rattle.problem.specs.Problem.{Problem}
use Rattle.replies.specs.declared.Reply.{Reply}
use Rattle.replies.specs.Checked.{checked}
use Rattle.mapping.specs.Check.{check_outcome}
use Rattle.c_api.proofs.ReadArms.{check_refused, check_read}
use Rattle.c_api.proofs.GraphsRead.{graphs_refused, graphs_read}
use Rattle.c_api.proofs.golfcedar_check_mapping.Goals as goal

pub returns-in-Err : goal.returns-in-Err
returns-in-Err c = check_refused _ _ _ _ _ _ (c.tell.ensures ∙ c.refused-reply.ensures) (graphs_refused _ _ c.empty-graphs.ensures c.read.result c.read.ensures _ c.in-Err.is)

pub returns-in-Ok : goal.returns-in-Ok
returns-in-Ok c =
    let a = c.args in
    ap (λ (r : Reply). checked r c.of_mapping-checked.result.earlier) c.tell-in-Ok.ensures
    ∙ check_read _ _ _ _ _ (graphs_read _ _ c.empty-graphs.ensures c.read.result c.read.ensures _ _ c.in-Ok.is) _ _ c.of_mapping-checked.ensures
    (c.check_mapping.ensures ∙ ap (λ (P : Problem). check_outcome P a.mapping.now) c.problem-problem.ensures)
