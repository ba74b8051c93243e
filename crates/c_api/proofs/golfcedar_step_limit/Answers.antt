-- `c_api::golfcedar_step_limit` meets its contract: the reply is to what the table answers. Assumes nothing.
use mathlib.Core.Path.{ap, sym, ◌∙◌}
use Rattle.step_limit.specs.Answers.{limit_answer_of}
use Rattle.replies.specs.Reply.{reply_of}
use Rattle.c_api.proofs.golfcedar_step_limit.Goals as goal
use Rattle.c_api.proofs.golfcedar_step_limit.Goals.{in-Ok, in-Err}

pub returns : goal.returns
returns c =
    elim c.match-step_limit.branch [
      | in-Ok w ↦ c.tell.ensures ∙ w.reply-is ∙ w.accepted-reply.ensures ∙ ap reply_of (sym (ap limit_answer_of w.in-Ok.is) ∙ c.step_limit.ensures)
      | in-Err w ↦ c.tell.ensures ∙ w.reply-is ∙ w.refused-reply.ensures ∙ ap reply_of (sym (ap limit_answer_of w.in-Err.is) ∙ c.step_limit.ensures)
    ]
