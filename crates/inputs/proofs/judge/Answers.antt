-- `inputs::judge` meets its contract: the first number that is not 0 tells which input is at fault (`Faults`). Assumes nothing.
use Rattle.inputs.proofs.Faults.{judged_old, judged_new, judged_list, judged_none}
use borrow.Author.Rules.{rules}
use Rattle.inputs.proofs.judge.Goals as goal

pub returns-then-old-ne0 : goal.returns-then-old-ne0
returns-then-old-ne0 c = judged_old _ _ _ c.judge_graph-old.ensures (search rules)

pub returns-then-new-ne0 : goal.returns-then-new-ne0
returns-then-new-ne0 c =
    judged_new _ _ _ c.judge_graph-old.ensures (search rules) c.judge_graph-new.ensures (search rules)

pub returns-then-reply-ne0 : goal.returns-then-reply-ne0
returns-then-reply-ne0 c =
    judged_list _ _ _ c.judge_graph-old.ensures (search rules) c.judge_graph-new.ensures (search rules) c.judge_list-reply.ensures
    (search rules)

pub returns : goal.returns
returns c =
    judged_none _ _ _ c.judge_graph-old.ensures (search rules) c.judge_graph-new.ensures (search rules) c.judge_list-reply.ensures
    (search rules)
