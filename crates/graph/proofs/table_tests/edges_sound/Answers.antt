use borrow.Author.Count.{below_none, below_more}
use mathlib.Core.Path.{◌≡◌}
use mathlib.Core.Bool.{true}
use mathlib.Core.Logic.{◌↔◌}
use native.Mathlib.Omega.{arith}
use Rattle.graph.specs.Soundness.{edges_sound}
use Rattle.graph.specs.EdgeRows.{TableRows}
use Rattle.bounded.proofs.Tells.{tells_failed, tells_refuted, same_answer}
use Rattle.graph.proofs.EdgeRows.{rows_alone}
use Rattle.graph.proofs.table_tests.edges_sound.Goals as goal
use Rattle.graph.proofs.table_tests.edges_sound.Goals.{Start}

-- what all rows are asked for
rows : (c : Start)
    → let a = c.args in (edges_sound a.order a.edges.now ≡ true) ↔ TableRows a.order a.edges.now
rows c =
    let a = c.args in
    rows_alone a.order a.edges.now c.requires (λ i. omega (arith, c.fits-edges i))

pub loop-a-init : goal.loop-a-init
loop-a-init c = below_none _

pub returns-then-not-row_sound : goal.returns-then-not-row_sound
returns-then-not-row_sound c =
    let r = c.before in
    same_answer _ _
    (tells_failed (λ sound. tells_refuted r.row_sound.ensures (c.if-not-row_sound.true) (sound.0 _ r.loop-a-test.true)))
    (rows (goal.at.returns-then-not-row_sound c).Start) (λ x. x, λ x. x)

pub loop-a-preserved : goal.loop-a-preserved
loop-a-preserved c = below_more _ _ c.loop-a.invariant (c.row_sound.ensures.0 (c.if-not-row_sound.false))

pub returns : goal.returns
returns c =
    let r = c.before in
    same_answer _ _
    (λ e. (λ k h. r.loop-a.invariant k (omega arith), c.words_null.ensures.0 e), λ sound. c.words_null.ensures.1 sound.1)
    (rows (goal.at.returns c).Start) (λ x. x, λ x. x)
