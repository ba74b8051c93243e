-- `mapping::rows::check_list` meets its contract: at each return the answers that led there say what `list_by` computes to.
-- Assumes nothing.
use borrow.Author.Tests.{eq-eqb, ne_eqb}
use mathlib.Core.Path.{ap, sym, ◌∙◌}
use native.Mathlib.Omega.{arith}
use Rattle.std.proofs.lemmas.Result.{err_from_is_err_and}
use Rattle.mapping.specs.Answers.{accepted}
use Rattle.mapping.specs.Check.{finding}
use Rattle.mapping.proofs.rows.check_list.Goals as goal

pub returns-then-mapping-problem : goal.returns-then-mapping-problem
returns-then-mapping-problem c = simp (ne_eqb _ _ c.if-mapping-problem.true)

pub invariant_of-rows : goal.invariant_of-rows
invariant_of-rows c = record { edges_long = c.requires.0; new_order_max = c.requires.2; few_rows = omega (arith, c.requires.1, c.if-mapping-problem.false) }

pub returns-in_err-first_fault : goal.returns-in_err-first_fault
returns-in_err-first_fault c =
    let told = err_from_is_err_and c.from_residual.result c.from_residual.ensures.1 in
    rw (told.1, told.2) (simp (eq-eqb _ _ c.if-mapping-problem.false, sym c.first_fault.ensures ∙ ap finding c.in_err-first_fault.was))

pub returns : goal.returns
returns c =
    simp (eq-eqb _ _ c.if-mapping-problem.false, sym c.first_fault.ensures ∙ ap finding c.in_ok-first_fault.was)
    (ap accepted c.size.ensures)
