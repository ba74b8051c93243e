use mathlib.Core.Path.{refl, ap, ◌∙◌}
use Prim.Native.Nat.{ℕ}
use native.Mathlib.Omega.{arith}
use lib.ListN.{get_or}
use borrow.Author.Tests.{lt-ltb, le-ltb}
use Rattle.bounded.proofs.Settled.{settled_none, settled_more, settled_skip}
use Rattle.bitset.specs.Members.{union_of}
use borrow.Author.Rules.{rules}
use Rattle.substitutes.proofs.sets.LabelPlaces.spread.Goals as goal
use Rattle.substitutes.proofs.sets.LabelPlaces.spread.Goals.{else-v-old, then-v-old}

pub loop-v-init : goal.loop-v-init
loop-v-init c = (search rules, settled_none _ _)

pub loop-v-preserved : goal.loop-v-preserved
loop-v-preserved c =
    let l = c.loop-v in
    let a = c.args in (
      search rules,
      elim c.if-v-old.branch [
        | then-v-old w ↦ rw w.words-is
            (settled_more _ _ l.invariant.1 (omega (arith, c.well_formed))
            (rw (lt-ltb _ _ w.if-v-old.true) (w.union.ensures ∙ ap (λ (r : ℕ). union_of (get_or a.equal l.v 0) (get_or a.joined.now r 0)) w.first_having-first.ensures.0)))
        | else-v-old w ↦ rw w.words-is (settled_skip _ _ l.invariant.1 (rw (le-ltb _ _ w.if-v-old.false) refl))
      ],
    )

pub returns : goal.returns
returns c =
    let s = c.loop-v.invariant.1 in
    record { entries = s.entries ∙ omega (arith, c.well_formed); word = λ v h. s.settled v (omega (arith, h, c.loop-v-test.false)) }
