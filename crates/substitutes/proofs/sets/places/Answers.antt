use native.Mathlib.Omega.{arith}
use Rattle.substitutes.proofs.Filled.{filled_none}
use Rattle.substitutes.proofs.Placed.{placed_more, placed_all}
use borrow.Author.Rules.{rules}
use Rattle.substitutes.proofs.sets.places.Goals as goal

pub loop-w-init : goal.loop-w-init
loop-w-init c = (search rules, filled_none _ _ _)

pub loop-w-preserved : goal.loop-w-preserved
loop-w-preserved c =
    let l = c.loop-w in
    let a = c.args in
    (search rules, placed_more a.labels.now a.unit l.w l.invariant.1 c.with.ensures)

pub returns : goal.returns
returns c =
    let a = c.args in
    placed_all a.labels.now a.unit c.loop-w.w (omega arith) c.loop-w.invariant.1
