use mathlib.Core.Path.{sym, ◌∙◌}
use Rattle.refit_text.specs.Lines.{fit_lines}
use Rattle.refit_text.proofs.PutRuns.{line_there, line_else, lines_none, line_more, line_none, lines_all}
use Rattle.refit_text.proofs.vertices.put_fitted.Goals as goal
use Rattle.refit_text.proofs.vertices.put_fitted.Goals.{then-is_free, else-is_free}

pub loop-w-init : goal.loop-w-init
loop-w-init c = lines_none _ _ _

pub loop-w-preserved : goal.loop-w-preserved
loop-w-preserved c =
    let sofar = c.loop-w.invariant in
    let h = c.loop-w-test.true in
    let told = sym c.is_free.ensures in
    elim c.if-is_free.branch [
      | then-is_free x ↦ rw x.writer-is (line_more sofar h (line_there _ _ _ (told ∙ x.if-is_free.true)) x.put_number_line.ensures)
      | else-is_free x ↦ rw x.writer-is (line_none sofar h (line_else _ _ _ (told ∙ x.if-is_free.false)))
    ]

pub returns : goal.returns
unfolding fit_lines
returns c = lines_all c.loop-w.invariant c.loop-w-test.false
