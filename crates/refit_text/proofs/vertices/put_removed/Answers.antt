use borrow.Author.Tests.{eq-eqb, ne_eqb}
use Rattle.refit_text.specs.Lines.{remove_lines}
use Rattle.refit_text.proofs.PutRuns.{line_there, line_else, lines_none, line_more, line_none, lines_all}
use Rattle.refit_text.proofs.vertices.put_removed.Goals as goal
use Rattle.refit_text.proofs.vertices.put_removed.Goals.{then-image, else-image}

pub loop-v-init : goal.loop-v-init
loop-v-init c = lines_none _ _ _

pub loop-v-preserved : goal.loop-v-preserved
loop-v-preserved c =
    let sofar = c.loop-v.invariant in
    let h = c.loop-v-test.true in
    elim c.if-image.branch [
      | then-image x ↦ rw x.writer-is (line_more sofar h (line_there _ _ _ (eq-eqb _ _ x.if-image.true)) x.put_number_line.ensures)
      | else-image x ↦ rw x.writer-is (line_none sofar h (line_else _ _ _ (ne_eqb _ _ x.if-image.false)))
    ]

pub returns : goal.returns
unfolding remove_lines
returns c = lines_all c.loop-v.invariant c.loop-v-test.false
