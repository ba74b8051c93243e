use native.Mathlib.Omega.{arith}
use borrow.Author.Rules.{rules}
use Rattle.bounded.proofs.Settled.{settled_none, settled_more}
use Rattle.problem.proofs.vertex_sets.meet_all.Goals as goal

pub loop-v-init : goal.loop-v-init
loop-v-init c = (search rules, settled_none _ _)

pub loop-v-preserved : goal.loop-v-preserved
loop-v-preserved c =
    let l = c.loop-v in
    (search rules, settled_more _ _ l.invariant.1 (search rules) c.meet.ensures)

pub returns : goal.returns
returns c =
    let s = c.loop-v.invariant.1 in
    record { entries = search rules; word = λ v h. s.settled v (omega (arith, h, c.loop-v-test.false)) }
