use native.Mathlib.Omega.{arith}
use Rattle.bounded.proofs.Tells.{tells_passed}
use Rattle.graph.proofs.Runs.{run_none, run_word, run_part, run_fails}
use Rattle.graph.proofs.null_edges.words_null.Goals as goal

pub loop-word-init : goal.loop-word-init
loop-word-init c = (omega arith, run_none _ _ _ (omega arith))

pub returns-then-not-eight_null : goal.returns-then-not-eight_null
returns-then-not-eight_null c = run_fails _ _ _ _ _ c.eight_null.ensures (c.if-not-eight_null.true) (omega arith) (omega arith)

pub loop-word-preserved : goal.loop-word-preserved
loop-word-preserved c =
    let r = c.before in
    (omega arith, run_word _ _ _ r.loop-word.invariant.1 (r.eight_null.ensures.0 (c.if-not-eight_null.false)))

pub returns : goal.returns
returns c = tells_passed (run_part _ _ _ _ _ (omega arith) (omega arith) c.loop-word.invariant.1)
