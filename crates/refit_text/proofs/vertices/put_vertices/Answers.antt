-- `refit_text::vertices::put_vertices` meets its contract: the lines of the vertices kept, removed and fitted are put one after the other.
-- Assumes nothing.
use Rattle.text.proofs.PutTexts.{writes_then}
use Rattle.refit_text.specs.Report.{vertex_lines}
use Rattle.refit_text.proofs.vertices.put_vertices.Goals as goal

pub returns : goal.returns
unfolding vertex_lines
returns c = writes_then (writes_then c.put_kept.ensures c.put_removed.ensures) c.put_fitted.ensures
