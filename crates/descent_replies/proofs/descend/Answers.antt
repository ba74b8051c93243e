-- `descent_replies::descend` meets its contract: what is loaded is descended from, a refusal is handed on (`DescentArms`). Assumes nothing.
use Rattle.problem.specs.Lent.{lent}
use Rattle.descent_replies.proofs.DescentArms.{load_descended, load_not_descended}
use Rattle.descent_replies.proofs.descend.Goals as goal

pub returns-in-Ok : goal.returns-in-Ok
returns-in-Ok c =
    let a = c.args in
    load_descended a.connected (lent a.problem) a.floor a.bytes.now a.budget a.workspace.now a.next.now c.load_checkpoint-loaded.result c.load_checkpoint-loaded.ensures
    c.in-Ok.is _ c.descend_and_save.ensures

pub returns-in-Err : goal.returns-in-Err
returns-in-Err c =
    let a = c.args in
    load_not_descended a.connected (lent a.problem) a.floor a.bytes.now a.budget a.workspace.now a.next.now c.load_checkpoint-loaded.result c.load_checkpoint-loaded.ensures
    _ c.in-Err.is _ c.refused.ensures
