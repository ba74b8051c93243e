-- `graph::Graph::check` meets its contract: at each return the tests that led there say what `soundness` computes to.
-- Assumes nothing.
use borrow.Author.Tests.{eq-eqb, ne_eqb, le-leb, lt-leb}
use mathlib.Core.Path.{◌≡◌, sym, ap, ◌∙◌}
use mathlib.Core.Bool.{true, false}
use lib.ListN.{length}
use Rattle.graph.specs.Soundness.{tables_fit, labels_sound, edges_sound, soundness}
use Rattle.graph.proofs.Graph.check.Goals as goal
use Rattle.graph.proofs.Graph.check.Goals.{Else-self-gt-MAX_ORDER}

pub returns-in_default-2 : goal.returns-in_default-2
unfolding soundness
returns-in_default-2 c = simp (ne_eqb (length c.args.self.labels.now) 64 c.in_default.ensures.1)

pub returns-in_default : goal.returns-in_default
unfolding soundness
returns-in_default c =
    simp (eq-eqb (length c.args.self.labels.now) 64 c.in_default.ensures.1.long, ne_eqb (length c.args.self.edges.now) 4096 c.in_default.ensures'.1)

pub returns-then-self-gt-MAX_ORDER : goal.returns-then-self-gt-MAX_ORDER
unfolding soundness
returns-then-self-gt-MAX_ORDER c =
    simp (
      eq-eqb (length c.args.self.labels.now) 64 c.in-Ok-Ok.ensures.1.long,
      eq-eqb (length c.args.self.edges.now) 4096 c.in-Ok-Ok.ensures'.1.long,
      lt-leb c.args.self.order 64 c.if-self-gt-MAX_ORDER.true,
    )

-- both tables have their lengths, and the order is at most 64
fit : (c : Else-self-gt-MAX_ORDER) → let g = c.args.self in tables_fit g.order g.labels.now g.edges.now ≡ true
fit c =
    simp (
      eq-eqb (length c.args.self.labels.now) 64 c.in-Ok-Ok.ensures.1.long,
      eq-eqb (length c.args.self.edges.now) 4096 c.in-Ok-Ok.ensures'.1.long,
      le-leb c.args.self.order 64 c.if-self-gt-MAX_ORDER.false,
    )

pub returns-then-not-labels_sound : goal.returns-then-not-labels_sound
unfolding soundness
returns-then-not-labels_sound c =
    let told : labels_sound c.args.self.order c.args.self.labels.now ≡ false =
    ap (labels_sound c.args.self.order) (sym c.in-Ok-Ok.ensures.1.same) ∙ sym c.labels_sound.ensures ∙ c.if-not-labels_sound.true in
    simp (fit (goal.at.returns-then-not-labels_sound c).Else-self-gt-MAX_ORDER, told)

pub returns-then-not-edges_sound : goal.returns-then-not-edges_sound
unfolding soundness
returns-then-not-edges_sound c =
    let labelled : labels_sound c.args.self.order c.args.self.labels.now ≡ true =
    ap (labels_sound c.args.self.order) (sym c.in-Ok-Ok.ensures.1.same) ∙ sym c.labels_sound.ensures ∙ c.if-not-labels_sound.false in
    let told : edges_sound c.args.self.order c.args.self.edges.now ≡ false =
    ap (edges_sound c.args.self.order) (sym c.in-Ok-Ok.ensures'.1.same) ∙ sym c.edges_sound.ensures ∙ c.if-not-edges_sound.true in
    simp (fit (goal.at.returns-then-not-edges_sound c).Else-self-gt-MAX_ORDER, labelled, told)

pub returns : goal.returns
unfolding soundness
returns c =
    let labelled : labels_sound c.args.self.order c.args.self.labels.now ≡ true =
    ap (labels_sound c.args.self.order) (sym c.in-Ok-Ok.ensures.1.same) ∙ sym c.labels_sound.ensures ∙ c.if-not-labels_sound.false in
    let told : edges_sound c.args.self.order c.args.self.edges.now ≡ true =
    ap (edges_sound c.args.self.order) (sym c.in-Ok-Ok.ensures'.1.same) ∙ sym c.edges_sound.ensures ∙ c.if-not-edges_sound.false in
    simp (fit (goal.at.returns c).Else-self-gt-MAX_ORDER, labelled, told)
