-- `problem_reader::read_problem` meets its contract: the lengths are tested first, each graph is read, and the old one's refusal comes first
-- (`Readings`). Assumes nothing.
use mathlib.Core.Path.{◌≡◌, sym, ◌∙◌}
use mathlib.Core.Bool.{true}
use Rattle.graph.specs.Soundness.{tables_fit}
use Rattle.std.proofs.lemmas.Result.{err_from_is_err_and}
use Rattle.problem_reader.proofs.Readings.{old_unfit, new_unfit, orders_read, new_refused, old_refused}
use Rattle.problem_reader.proofs.read_problem.Goals as goal
use Rattle.problem_reader.proofs.read_problem.Goals.{Else-not-tables_fit, Else-not-tables_fit-2}

-- both graphs' tables fit where they are read
old_fits : (c : Else-not-tables_fit) → let a = c.args in tables_fit 0 a.old_labels.now a.old_edges.now ≡ true
old_fits c = sym c.tables_fit.ensures ∙ c.if-not-tables_fit.false

new_fits : (c : Else-not-tables_fit-2) → let a = c.args in tables_fit 0 a.new_labels.now a.new_edges.now ≡ true
new_fits c = sym c.tables_fit-2.ensures ∙ c.if-not-tables_fit-2.false

pub returns-then-not-tables_fit : goal.returns-then-not-tables_fit
returns-then-not-tables_fit c = old_unfit _ _ _ _ _ _ (sym c.tables_fit.ensures ∙ c.if-not-tables_fit.true)

pub returns-then-not-tables_fit-2 : goal.returns-then-not-tables_fit-2
returns-then-not-tables_fit-2 c =
    new_unfit _ _ _ _ _ _ (old_fits (goal.at.returns-then-not-tables_fit-2 c).Else-not-tables_fit)
    (sym c.tables_fit-2.ensures ∙ c.if-not-tables_fit-2.true)

pub returns : goal.returns
returns c =
    let g = goal.at.returns c in
    let o = c.read_graph-old in
    let w = c.read_graph-new in
    orders_read _ _ _ _ _ _ o.result w.result _ _ _ _ (old_fits g.Else-not-tables_fit) (new_fits g.Else-not-tables_fit-2) o.ensures w.ensures
    _ _ c.in_ok-old.was c.in_ok-new.was

pub returns-in_err-new : goal.returns-in_err-new
returns-in_err-new c =
    let g = goal.at.returns-in_err-new c in
    let o = c.read_graph-old in
    let w = c.read_graph-new in
    let told = err_from_is_err_and c.from_residual-in_err-new.result c.from_residual-in_err-new.ensures.1 in
    rw (told.1, told.2)
    (new_refused _ _ _ _ _ _ o.result w.result _ _ _ _ (old_fits g.Else-not-tables_fit) (new_fits g.Else-not-tables_fit-2) o.ensures w.ensures
    _ _ c.in_ok-old.was c.in_err-new.was)

pub returns-in_err-old : goal.returns-in_err-old
returns-in_err-old c =
    let g = goal.at.returns-in_err-old c in
    let o = c.read_graph-old in
    let w = c.read_graph-new in
    let told = err_from_is_err_and c.from_residual.result c.from_residual.ensures.1 in
    rw (told.1, told.2)
    (old_refused _ _ _ _ _ _ o.result w.result _ _ _ _ (old_fits g.Else-not-tables_fit) (new_fits g.Else-not-tables_fit-2) o.ensures w.ensures
    _ c.in_err-old.was)
