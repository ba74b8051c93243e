-- `substitutes::check_substitutes` meets its contract: at each return the tests that led there say what `substitutes_answer` computes to.
-- Assumes nothing.
use borrow.Author.Tests.{eq-eqb, ne_eqb, le-leb, lt-leb}
use mathlib.Core.Path.{sym, ◌∙◌}
use Rattle.substitutes.specs.Soundness.{substitutes_answer}
use Rattle.substitutes.proofs.check_substitutes.Goals as goal
use Rattle.substitutes.proofs.check_substitutes.Goals.{then-list-ne0-via-then-list-ne0, then-list-ne0-via-else-list-ne0+then-list-gt-MAX_BYTES}

pub returns-then-list-ne0 : goal.returns-then-list-ne0
unfolding substitutes_answer
returns-then-list-ne0 c =
    elim c.then-list-ne0.branch [
      | then-list-ne0-via-then-list-ne0 w ↦ simp (ne_eqb _ _ w.if-list-ne0.true)
      | then-list-ne0-via-else-list-ne0+then-list-gt-MAX_BYTES w ↦ simp (eq-eqb _ _ w.if-list-ne0.false, lt-leb _ _ w.if-list-gt-MAX_BYTES.true)
    ]

pub returns-then-not-labels_sound : goal.returns-then-not-labels_sound
unfolding substitutes_answer
returns-then-not-labels_sound c =
    simp (eq-eqb _ _ c.if-list-ne0.false, le-leb _ _ c.if-list-gt-MAX_BYTES.false, sym c.labels_sound.ensures ∙ c.if-not-labels_sound.true)

pub returns : goal.returns
unfolding substitutes_answer
returns c =
    simp (eq-eqb _ _ c.if-list-ne0.false, le-leb _ _ c.if-list-gt-MAX_BYTES.false, sym c.labels_sound.ensures ∙ c.if-not-labels_sound.false)
