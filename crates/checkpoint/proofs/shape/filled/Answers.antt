use mathlib.Core.Path.{◌∙◌}
use native.Mathlib.Omega.{arith}
use borrow.Author.Rules.{rules}
use Rattle.checkpoint.proofs.FilledPath.{filled_none, filled_more, filled_all}
use Rattle.checkpoint.proofs.shape.filled.Goals as goal

pub loop-i-init : goal.loop-i-init
loop-i-init c = (search rules, search rules, filled_none c.args.path c.args.depth)

pub loop-i-preserved : goal.loop-i-preserved
loop-i-preserved c =
    let l = c.loop-i in
    let a = c.args in
    (search rules, omega arith, rw l.invariant.2 (filled_more a.path a.depth l.i c.requires l.invariant.0 c.loop-i-test.true))

pub returns : goal.returns
returns c =
    let l = c.loop-i in
    let a = c.args in
    l.invariant.2 ∙ filled_all a.path a.depth l.i c.requires c.loop-i-test.false (omega arith)
