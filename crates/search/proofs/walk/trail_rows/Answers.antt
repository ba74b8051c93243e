use mathlib.Core.Path.{◌≡◌, refl}
use native.Mathlib.Omega.{arith}
use Rattle.search.proofs.TrailRows.{gathered_none, gathered_more, gathered_all}
use Rattle.search.proofs.walk.trail_rows.Goals as goal

pub loop-before-init : goal.loop-before-init
loop-before-init c = λ path depth ws long deep counted t. rw counted (gathered_none path depth long deep)

pub loop-before-preserved : goal.loop-before-preserved
loop-before-preserved c = λ path depth ws long deep counted t.
    rw c.with-set.ensures (gathered_more path depth long deep t _ (c.loop-before.invariant path depth ws long deep counted t) c.loop-before-test.true refl)

pub returns : goal.returns
returns c = λ path depth ws long deep counted t.
    let none : c.loop-before.before ≡ 0 = omega (arith, c.loop-before-test.false) in
    gathered_all path depth long deep t (rw none at (c.loop-before.invariant path depth ws long deep counted t))
