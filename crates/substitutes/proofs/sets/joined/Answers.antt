use borrow.Author.Rules.{rules}
use mathlib.Core.Path.{◌≡◌, ap, ◌∙◌}
use native.Mathlib.Omega.{arith}
use lib.ListN.{get_or}
use Rattle.bitset.specs.Members.{union_of}
use Rattle.substitutes.specs.Substitutes.{pairs}
use Rattle.substitutes.specs.Agreeing.{having, first_having}
use Rattle.substitutes.proofs.Filled.{filled_none, filled_more}
use Rattle.substitutes.proofs.sets.joined.Goals as goal

pub loop-k-init : goal.loop-k-init
loop-k-init c = (search rules, filled_none _ _ _)

pub loop-k-preserved : goal.loop-k-preserved
loop-k-preserved c =
    let a = c.args in (
      search rules,
      filled_more _ _ _ c.loop-k.invariant.1
          (c.first_having-first.ensures.0 ∙ ap (first_having a.old_places.low.now a.old_places.high.now) c.label_at-old.ensures)
          c.first_having-first.ensures.1
          (c.union.ensures
          ∙ ap (union_of (get_or c.loop-k.sets c.first_having-first.result 0))
          (c.having.ensures ∙ ap (having a.new_places.low.now a.new_places.high.now) c.label_at-new.ensures)),
    )

pub returns : goal.returns
returns c =
    let l = c.loop-k in
    let all : l.k ≡ pairs c.args.list.now = omega arith in
    record { entries = l.invariant.1.entries; joined = λ r h. rw (← all) (l.invariant.1.set_is r h) }
