use mathlib.Core.Path.{refl, ◌∙◌}
use native.Mathlib.Omega.{arith}
use lib.ListN.{get_or-replicate}
use borrow.Author.Tests.{lt-ltb, le-ltb}
use Rattle.bounded.proofs.Settled.{settled_none, settled_more, settled_skip}
use borrow.Author.Rules.{rules}
use Rattle.substitutes.proofs.sets.LabelPlaces.equal.Goals as goal
use Rattle.substitutes.proofs.sets.LabelPlaces.equal.Goals.{else-v-old, then-v-old}

pub loop-v-init : goal.loop-v-init
loop-v-init c = (search rules, settled_none _ _)

pub loop-v-preserved : goal.loop-v-preserved
loop-v-preserved c =
    let l = c.loop-v in (
      search rules,
      elim c.if-v-old.branch [
        | then-v-old w ↦ rw w.words-is (settled_more _ _ l.invariant.1 c.loop-v-test.true (rw (lt-ltb _ _ w.if-v-old.true) w.having.ensures))
        | else-v-old w ↦ rw w.words-is
            (settled_skip _ _ l.invariant.1 (get_or-replicate 64 l.v 0 0 c.loop-v-test.true ∙ rw (le-ltb _ _ w.if-v-old.false) refl))
      ],
    )

pub returns : goal.returns
returns c =
    let s = c.loop-v.invariant.1 in
    record { entries = s.entries; word = λ v h. s.settled v (omega (arith, h, c.loop-v-test.false)) }
