use borrow.Author.Tests.{eq-eqb, ne_eqb}
use mathlib.Core.Path.{refl, sym, ◌∙◌}
use mathlib.Core.Bool.{not, and-false}
use Rattle.bounded.proofs.AllBelow.{passed_none, passed_more, passed_all, false_all_below}
use lib.Dec.{eqb}
use Rattle.substitutes.specs.Substitutes.{old_label}
use Rattle.substitutes.proofs.labels_sound.Goals as goal
use Rattle.substitutes.proofs.labels_sound.Goals.{then-label_at-eq0-via-then-label_at-eq0, then-label_at-eq0-via-else-label_at-eq0+then-label_at-eq0-2}

pub loop-k-init : goal.loop-k-init
loop-k-init c = passed_none _ _

pub returns-then-label_at-eq0 : goal.returns-then-label_at-eq0
returns-then-label_at-eq0 c =
    elim c.then-label_at-eq0.branch [
      | then-label_at-eq0-via-then-label_at-eq0 w ↦
          sym (false_all_below _ _ c.loop-k.k c.loop-k-test.true (rw (eq-eqb _ _ (sym c.label_at.ensures ∙ w.if-label_at-eq0.true)) refl))
      | then-label_at-eq0-via-else-label_at-eq0+then-label_at-eq0-2 w ↦
          sym (false_all_below _ _ c.loop-k.k c.loop-k-test.true
          (rw (eq-eqb _ _ (sym w.label_at-else-label_at-eq0.ensures ∙ w.if-label_at-eq0-2.true))
          (and-false (not (eqb (old_label c.args.list.now c.loop-k.k) 0)))))
    ]

pub loop-k-preserved : goal.loop-k-preserved
loop-k-preserved c =
    passed_more _ _ _ c.loop-k-test.true c.loop-k.invariant
    (rw (
      ne_eqb _ _ (λ e. c.if-label_at-eq0.false (c.label_at.ensures ∙ e)),
      ne_eqb _ _ (λ e. c.if-label_at-eq0-2.false (c.label_at-else-label_at-eq0.ensures ∙ e)),
    ) refl)

pub returns : goal.returns
returns c = sym (passed_all _ _ _ c.loop-k-test.false c.loop-k.invariant)
