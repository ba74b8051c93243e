-- `c_api::golfcedar_to_edition_1` meets its contract: the reply is to what the move back to edition 1 answers.
-- Assumes nothing.
use mathlib.Core.Path.{ap, ◌∙◌}
use Rattle.replies.specs.declared.Reply.{Reply}
use Rattle.c_api.specs.Wrote.{wrote, wrote_by}
use Rattle.c_api.proofs.golfcedar_to_edition_1.Goals as goal

pub returns : goal.returns
returns c =
    ap (λ (q : Reply). wrote q c.to_edition_1.new.out) (c.tell.ensures ∙ c.of-reply.ensures) ∙ ap wrote_by c.to_edition_1.ensures
