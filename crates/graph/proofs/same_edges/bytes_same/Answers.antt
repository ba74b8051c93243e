use native.Mathlib.Omega.{arith}
use Rattle.graph.proofs.Runs.{run_none, run_one, run_at, run_join, run_part}
use Rattle.bounded.proofs.Tells.{tells_passed, tells_failed}
use Rattle.graph.proofs.same_edges.bytes_same.Goals as goal

pub loop-b-init : goal.loop-b-init
loop-b-init c = (omega arith, run_none _ _ _ (omega arith))

pub returns-then-edges-a : goal.returns-then-edges-a
returns-then-edges-a c = tells_failed (λ same. c.if-edges-a.true (run_at _ _ _ _ same c.loop-b.invariant.0 c.loop-b-test.true))

pub loop-b-preserved : goal.loop-b-preserved
loop-b-preserved c =
    let kept = c.loop-b.invariant in
    (omega arith, run_join _ _ _ _ kept.1 (run_one _ _ c.if-edges-a.false))

pub returns : goal.returns
returns c = tells_passed (run_part _ _ _ _ _ (omega arith) c.loop-b-test.false c.loop-b.invariant.1)
