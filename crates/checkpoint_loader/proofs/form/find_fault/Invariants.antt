-- `checkpoint_loader::form::find_fault` meets its contract: each turn of the loop keeps the fault of the whole bytes (`FaultTurn`).
-- Assumes nothing.
use Rattle.checkpoint_loader.proofs.FaultTurn.{FaultTurn}
use Rattle.checkpoint_loader.proofs.form.find_fault.Given as goal

abbrev pub invariant-loop-at : goal.invariant-loop-at
invariant-loop-at l = FaultTurn l.order l.bytes l.stage l.at
