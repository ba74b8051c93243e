-- `refit_text::program::search_first` meets its contract: one call from a fresh checkpoint. Assumes nothing.
use mathlib.Core.Path.{ap}
use Rattle.problem.specs.Lent.{lent}
use Rattle.search.specs.Call.{Called}
use Rattle.refit_text.specs.Report.{report_text}
use Rattle.refit_text.specs.Program.{search_text}
use Rattle.refit_text.proofs.program.search_first.Goals as goal

pub returns : goal.returns
unfolding search_text
returns c =
    let P = lent c.args.problem in
    ap (λ (x : Called). report_text P.old.order P.new.order x.answer x.checkpoint) c.start.ensures
