-- `refit_text::vertices::put_fitted` meets its contract: the lines of the vertices passed are put. Assumes nothing.
use Rattle.refit_text.specs.Lines.{fit_text}
use Rattle.refit_text.proofs.PutRuns.{PutTo}
use Rattle.refit_text.proofs.vertices.put_fitted.Given as goal

abbrev pub invariant-loop-w : goal.invariant-loop-w
invariant-loop-w l = PutTo l.new_order (fit_text l.mapping) l.w l.initial.writer l.writer
