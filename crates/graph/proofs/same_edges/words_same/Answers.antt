use native.Mathlib.Omega.{arith}
use Rattle.bounded.proofs.Tells.{tells_passed}
use Rattle.graph.proofs.Runs.{run_none, run_word, run_part, run_fails}
use Rattle.graph.proofs.same_edges.words_same.Goals as goal

pub loop-word-init : goal.loop-word-init
loop-word-init c = run_none _ _ _ (omega arith)

pub returns-then-not-eight_same : goal.returns-then-not-eight_same
returns-then-not-eight_same c = run_fails _ _ _ _ _ c.eight_same.ensures (c.if-not-eight_same.true) (omega arith) (omega arith)

pub loop-word-preserved : goal.loop-word-preserved
loop-word-preserved c =
    let r = c.before in
    run_word _ _ _ r.loop-word.invariant (r.eight_same.ensures.0 (c.if-not-eight_same.false))

pub returns : goal.returns
returns c = tells_passed (run_part _ _ _ _ _ (omega arith) (omega arith) c.loop-word.invariant)
