-- `descent_replies::descend_and_save` meets its contract: a ceiling is saved, a refusal is handed on (`DescentArms`). Assumes nothing.
use mathlib.Core.Path.{refl, ap, ◌∙◌}
use Rattle.problem.specs.Lent.{lent}
use Rattle.replies.specs.declared.Reply.{Reply}
use Rattle.descent_replies.specs.DescentReply.{descent_reply}
use Rattle.descent_replies.proofs.DescentArms.{descent_saved, descent_unsaved, descent_refused}
use Rattle.descent_replies.proofs.descend_and_save.Goals as goal

pub returns-in-Ok-save_checkpoint : goal.returns-in-Ok-save_checkpoint
returns-in-Ok-save_checkpoint c =
    let a = c.args in
    ap (λ (r : Reply). descent_reply r c.in-Ok.ceiling c.descend_apart-descended.result.visits c.clear_words.new.workspace c.save_checkpoint.new.out) c.accepted.ensures
    ∙ descent_saved a.connected (lent a.problem) a.floor a.checkpoint a.budget a.workspace.now a.next.now c.descend_apart-descended.result
    (c.descend_apart-descended.ensures a.workspace.now refl) _ c.in-Ok.is c.save_checkpoint.result _ c.save_checkpoint.ensures
    _ c.in-Ok-save_checkpoint.is _ c.clear_words.ensures

pub returns-in-Err-save_checkpoint : goal.returns-in-Err-save_checkpoint
returns-in-Err-save_checkpoint c =
    let a = c.args in
    descent_unsaved a.connected (lent a.problem) a.floor a.checkpoint a.budget a.workspace.now a.next.now c.descend_apart-descended.result
    (c.descend_apart-descended.ensures a.workspace.now refl) _ c.in-Ok.is c.save_checkpoint.result _ c.save_checkpoint.ensures
    _ c.in-Err-save_checkpoint.is _ c.refused.ensures

pub returns-in-Err : goal.returns-in-Err
returns-in-Err c =
    let a = c.args in
    descent_refused a.connected (lent a.problem) a.floor a.checkpoint a.budget a.workspace.now a.next.now c.descend_apart-descended.result
    (c.descend_apart-descended.ensures a.workspace.now refl) _ c.in-Err.is _ c.refused-in-Err.ensures
