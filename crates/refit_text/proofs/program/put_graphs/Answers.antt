-- `refit_text::program::put_graphs` meets its contract: what is printed goes by the answer of the reading (`GraphsPrinted`). Assumes nothing.
use mathlib.Core.Path.{◌∙◌}
use Rattle.text.proofs.PutTexts.{writes_same}
use Rattle.refit_text.proofs.GraphsPrinted.{Read, order_max, print_graphs, print_refusal}
use Rattle.refit_text.proofs.program.put_graphs.Goals as goal
use Rattle.refit_text.proofs.program.put_graphs.Goals.{After-read_problem-read}

abbrev both_read : (m : After-read_problem-read) → Read m.args.old_bytes.now m.args.new_bytes.now
both_read m =
    let called = m.read_problem-read in
    let last = called.new in
    record {
      answer = called.result;
      old_labels = last.old_labels;
      old_edges = last.old_edges;
      new_labels = last.new_labels;
      new_edges = last.new_edges;
      told = called.ensures;
    }

pub put_report-requires : goal.put_report-requires
put_report-requires c =
    order_max (both_read (goal.at.put_report-requires c).After-read_problem-read) c.type_inv.old_bytes c.type_inv.new_bytes _ _ c.in-Ok.is

pub returns-in-Ok : goal.returns-in-Ok
returns-in-Ok c =
    let a = c.args in
    let shown = print_graphs (both_read (goal.at.returns-in-Ok c).After-read_problem-read) a.minimum a.budget _ _ c.in-Ok.is in
    writes_same (c.search_first-searched.ensures ∙ shown) c.put_report.ensures

pub returns-in-Err : goal.returns-in-Err
returns-in-Err c =
    let a = c.args in
    writes_same (print_refusal (both_read (goal.at.returns-in-Err c).After-read_problem-read) a.minimum a.budget _ c.in-Err.is) c.put_refusal.ensures
