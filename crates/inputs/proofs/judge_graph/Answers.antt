-- `inputs::judge_graph` meets its contract: the reply is to what the reading answers. Assumes nothing.
use mathlib.Core.Path.{ap, ◌∙◌}
use Rattle.graph_reader.specs.Reading.{Reading}
use Rattle.replies.specs.Reply.{reply_of}
use Rattle.inputs.proofs.judge_graph.Goals as goal

pub returns : goal.returns
returns c = c.of.ensures ∙ ap (λ (r : Reading). reply_of r.answer) c.read_graph.ensures
