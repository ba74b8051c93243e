-- `replies::search_and_save` meets its contract: a ceiling is saved, a refusal is handed on (`CallArms`). Assumes nothing.
use mathlib.Core.Path.{refl, ap, ◌∙◌}
use Rattle.problem.specs.Lent.{lent}
use Rattle.replies.specs.declared.Reply.{Reply}
use Rattle.replies.specs.Resumed.{resumed}
use Rattle.replies.proofs.CallArms.{search_saved, search_unsaved, search_refused}
use Rattle.replies.proofs.search_and_save.Goals as goal

pub returns-in-Ok-save_checkpoint : goal.returns-in-Ok-save_checkpoint
returns-in-Ok-save_checkpoint c =
    let a = c.args in
    ap (λ (r : Reply). resumed r c.in-Ok.ceiling c.clear_words.new.workspace c.save_checkpoint.new.out) c.accepted.ensures
    ∙ search_saved a.connected (lent a.problem) a.checkpoint a.budget a.workspace.now a.next.now c.search_apart-searched.result
    (c.search_apart-searched.ensures a.workspace.now refl) _ c.in-Ok.is c.save_checkpoint.result _ c.save_checkpoint.ensures
    _ c.in-Ok-save_checkpoint.is _ c.clear_words.ensures

pub returns-in-Err-save_checkpoint : goal.returns-in-Err-save_checkpoint
returns-in-Err-save_checkpoint c =
    let a = c.args in
    search_unsaved a.connected (lent a.problem) a.checkpoint a.budget a.workspace.now a.next.now c.search_apart-searched.result
    (c.search_apart-searched.ensures a.workspace.now refl) _ c.in-Ok.is c.save_checkpoint.result _ c.save_checkpoint.ensures
    _ c.in-Err-save_checkpoint.is _ c.refused.ensures

pub returns-in-Err : goal.returns-in-Err
returns-in-Err c =
    let a = c.args in
    search_refused a.connected (lent a.problem) a.checkpoint a.budget a.workspace.now a.next.now c.search_apart-searched.result
    (c.search_apart-searched.ensures a.workspace.now refl) _ c.in-Err.is _ c.refused-in-Err.ensures
