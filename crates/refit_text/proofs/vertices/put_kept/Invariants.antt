-- `refit_text::vertices::put_kept` meets its contract: the lines of the vertices passed are put. Assumes nothing.
use lib.ListN.{length}
use Rattle.refit_text.specs.Lines.{keep_text}
use Rattle.refit_text.proofs.PutRuns.{PutTo}
use Rattle.refit_text.proofs.vertices.put_kept.Given as goal

abbrev pub invariant-loop-v : goal.invariant-loop-v
invariant-loop-v l = PutTo (length l.mapping) (keep_text l.mapping) l.v l.initial.writer l.writer
