-- `replies::resume` meets its contract: what is loaded is searched on, a refusal is handed on (`CallArms`). Assumes nothing.
use Rattle.problem.specs.Lent.{lent}
use Rattle.replies.proofs.CallArms.{load_searched, load_not_searched}
use Rattle.replies.proofs.resume.Goals as goal

pub returns-in-Ok : goal.returns-in-Ok
returns-in-Ok c =
    load_searched c.args.connected (lent c.args.problem) c.args.bytes.now c.load_checkpoint-loaded.result c.load_checkpoint-loaded.ensures c.in-Ok.is
    c.args.budget c.args.workspace.now c.args.next.now c.search_and_save.result _ _ c.search_and_save.ensures

pub returns-in-Err : goal.returns-in-Err
returns-in-Err c =
    load_not_searched c.args.connected (lent c.args.problem) c.args.bytes.now c.load_checkpoint-loaded.result c.load_checkpoint-loaded.ensures
    _ c.in-Err.is _ c.refused.ensures _ _ _
