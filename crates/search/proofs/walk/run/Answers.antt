use native.Mathlib.Omega.{arith}
use Rattle.search.proofs.RunTurn.{ran_none, ran_more, visited_steps, ran_finished, ran_out}
use Rattle.search.proofs.walk.run.Goals as goal

pub loop-made-init : goal.loop-made-init
loop-made-init c = (ran_none c.requires.1, (λ busy. (omega arith, c.requires.0 busy)), c.requires.2)

pub visit-at-requires : goal.visit-at-requires
visit-at-requires c =
    let inv = c.loop-made.invariant in
    let busy = c.if-at.false in
    record { resumes = inv.0.resumes; goes_on = (busy, omega (arith, inv.1 busy, c.loop-made-test.true), inv.2) }

pub loop-made-preserved : goal.loop-made-preserved
loop-made-preserved c =
    let inv = c.loop-made.invariant in
    let busy = c.if-at.false in
    let counts = inv.1 busy in
    let visited = c.visit-at.ensures.visited in (
      ran_more inv.0 (omega (arith, counts.0, c.loop-made-test.true)) busy c.visit-at.auto.workspace visited,
      (λ e. (omega (arith, visited_steps busy inv.0.resumes visited, counts.0), counts.1)),
      c.visit-at.ensures.trail,
    )

pub returns-then-at : goal.returns-then-at
returns-then-at c = ran_finished c.loop-made.invariant.0 c.if-at.true

pub returns-after-loop-made : goal.returns-after-loop-made
returns-after-loop-made c = ran_out c.loop-made.invariant.0 c.loop-made.invariant.1 c.loop-made-test.false
