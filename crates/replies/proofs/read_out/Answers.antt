-- `replies::read_out` meets its contract: what is loaded is read out, a refusal is handed on (`CallArms`). Assumes nothing.
use Rattle.problem.specs.Lent.{lent}
use Rattle.replies.proofs.CallArms.{load_order, load_read, load_not_read}
use Rattle.replies.proofs.read_out.Goals as goal

pub read_checkpoint-requires : goal.read_checkpoint-requires
read_checkpoint-requires c =
    load_order c.args.connected (lent c.args.problem) c.args.bytes.now c.load_checkpoint-loaded.result c.load_checkpoint-loaded.ensures c.in-Ok.is

pub returns-in-Ok : goal.returns-in-Ok
returns-in-Ok c =
    load_read c.args.connected (lent c.args.problem) c.args.bytes.now c.load_checkpoint-loaded.result c.load_checkpoint-loaded.ensures c.in-Ok.is
    c.args.mapping.now _ c.read_checkpoint.ensures

pub returns-in-Err : goal.returns-in-Err
returns-in-Err c =
    load_not_read c.args.connected (lent c.args.problem) c.args.bytes.now c.load_checkpoint-loaded.result c.load_checkpoint-loaded.ensures
    _ c.in-Err.is _ c.refused.ensures c.args.mapping.now
