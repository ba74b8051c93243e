use native.Mathlib.Omega.{arith}
use Rattle.bounded.proofs.Tells.{tells_passed, tells_failed}
use Rattle.graph.proofs.Runs.{run_none, run_one, run_at, run_join, run_part}
use Rattle.graph.proofs.null_edges.bytes_null.Goals as goal

pub loop-place-init : goal.loop-place-init
loop-place-init c = (omega arith, run_none _ _ _ (omega arith))

pub returns-then-edges-place-ne0 : goal.returns-then-edges-place-ne0
returns-then-edges-place-ne0 c = tells_failed (λ null. c.if-edges-place-ne0.true (run_at _ _ _ _ null c.loop-place.invariant.0 c.loop-place-test.true))

pub loop-place-preserved : goal.loop-place-preserved
loop-place-preserved c =
    let kept = c.loop-place.invariant in
    (omega arith, run_join _ _ _ _ kept.1 (run_one _ _ c.if-edges-place-ne0.false))

pub returns : goal.returns
returns c = tells_passed (run_part _ _ _ _ _ (omega arith) c.loop-place-test.false c.loop-place.invariant.1)
