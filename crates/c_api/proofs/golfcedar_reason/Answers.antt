-- `c_api::golfcedar_reason` meets its contract: the reply is to what the writing of the text answers. Assumes nothing.
use mathlib.Core.Path.{ap, ◌∙◌}
use Rattle.replies.specs.declared.Reply.{Reply}
use Rattle.c_api.specs.Wrote.{wrote, wrote_by}
use Rattle.c_api.proofs.golfcedar_reason.Goals as goal

pub returns : goal.returns
returns c =
    ap (λ (q : Reply). wrote q c.reason.new.out) (c.tell.ensures ∙ c.of-reply.ensures) ∙ ap wrote_by c.reason.ensures
