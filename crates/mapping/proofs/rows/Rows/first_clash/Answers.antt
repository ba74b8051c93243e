use mathlib.Core.Path.{ap, sym, ◌∙◌}
use Rattle.std.proofs.lemmas.Result.{err_from_is_err_and}
use Rattle.bounded.proofs.First.{clear_none, clear_more, clear_all, clear_found}
use Rattle.mapping.specs.Check.{finding}
use Rattle.mapping.proofs.rows.Rows.first_clash.Goals as goal

pub loop-u-init : goal.loop-u-init
loop-u-init c = clear_none _ _

pub returns-in_err-clash : goal.returns-in_err-clash
returns-in_err-clash c =
    let told = err_from_is_err_and c.from_residual.result c.from_residual.ensures.1 in
    rw (told.1, told.2) (sym (clear_found _ _ _ _ c.loop-u-test.true c.loop-u.invariant (sym c.clash.ensures ∙ ap finding c.in_err-clash.was)))

pub loop-u-preserved : goal.loop-u-preserved
loop-u-preserved c =
    clear_more _ _ _ c.loop-u-test.true c.loop-u.invariant
    (sym c.clash.ensures ∙ ap finding c.in_ok-clash.was)

pub returns : goal.returns
returns c = sym (clear_all _ _ _ c.loop-u-test.false c.loop-u.invariant)
