use mathlib.Core.Path.{sym, ◌∙◌}
use Rattle.bounded.proofs.AllBelow.{passed_none, passed_more, passed_all, false_all_below}
use Rattle.graph.specs.Soundness.{labels_sound}
use Rattle.graph.proofs.table_tests.labels_sound.Goals as goal

pub loop-v-init : goal.loop-v-init
loop-v-init c = passed_none _ _

pub returns-then-not-label_sound : goal.returns-then-not-label_sound
unfolding labels_sound
returns-then-not-label_sound c =
    let r = c.before in
    sym (false_all_below 64 _ _ r.loop-v-test.true (sym r.label_sound.ensures ∙ c.if-not-label_sound.true))

pub loop-v-preserved : goal.loop-v-preserved
loop-v-preserved c =
    let r = c.before in
    passed_more _ _ _ r.loop-v-test.true r.loop-v.invariant (sym r.label_sound.ensures ∙ c.if-not-label_sound.false)

pub returns : goal.returns
unfolding labels_sound
returns c = sym (passed_all 64 _ _ c.loop-v-test.false c.loop-v.invariant)
