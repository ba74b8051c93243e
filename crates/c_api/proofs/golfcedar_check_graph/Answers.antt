-- `c_api::golfcedar_check_graph` meets its contract: the reply is to what the reading answers. Assumes nothing.
use Rattle.c_api.specs.Checks.{checking_graph}
use mathlib.Core.Path.{◌∙◌}
use Rattle.c_api.proofs.golfcedar_check_graph.Goals as goal

pub returns : goal.returns
unfolding checking_graph
returns c = c.tell.ensures ∙ c.judge_graph-reply.ensures
