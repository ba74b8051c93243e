-- `refit_text::report::put_accepted` meets its contract: the four lines that come first and those of the vertices are put one after the other.
-- Assumes nothing.
use Rattle.text.specs.Writes.{Writes}
use Rattle.text.proofs.PutTexts.{writes_same, writes_none, writes_then}
use lib.ListN.{take}
use Rattle.refit_text.specs.Report.{head_lines, accepted_text}
use Rattle.refit_text.proofs.report.put_accepted.Goals as goal
use Rattle.refit_text.proofs.report.put_accepted.Goals.{After-put_number_line-2}

head : (c : After-put_number_line-2)
    → let k = c.args.checkpoint.now in
    Writes (head_lines k.finished k.holds (take c.args.old_order k.incumbent) k.steps c.args.ceiling) c.args.writer.now c.put_number_line-2.new.self
head c = writes_then (writes_then (writes_then c.put_state.ensures c.put_size.ensures) c.put_number_line.ensures) c.put_number_line-2.ensures

pub returns-then-checkpoint : goal.returns-then-checkpoint
unfolding accepted_text
returns-then-checkpoint c =
    writes_then (head (goal.at.returns-then-checkpoint c).After-put_number_line-2) (writes_same (rw c.if-checkpoint.true) c.put_vertices.ensures)

pub returns-else-checkpoint : goal.returns-else-checkpoint
unfolding accepted_text
returns-else-checkpoint c =
    writes_then (head (goal.at.returns-else-checkpoint c).After-put_number_line-2) (writes_same (rw c.if-checkpoint.false) (writes_none _))
