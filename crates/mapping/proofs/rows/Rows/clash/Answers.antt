-- `mapping::rows::Rows::clash` meets its contract: at each return the tests that led there say what the definition computes to.
-- Assumes nothing.
use borrow.Author.Tests.{eq-eqb, ne_eqb}
use mathlib.Core.Path.{sym, ◌∙◌}
use native.Mathlib.Omega.{arith}
use Rattle.mapping.proofs.rows.Rows.clash.Goals as goal

pub returns-then-other : goal.returns-then-other
returns-then-other c = simp (eq-eqb _ _ c.if-other.true)

pub returns-then-other-image : goal.returns-then-other-image
returns-then-other-image c = simp (ne_eqb _ _ c.if-other.false, eq-eqb _ _ c.if-other-image.true)

pub compare_edges-requires : goal.compare_edges-requires
compare_edges-requires c =
    omega (arith, c.requires.below.1 c.args.u.0 c.requires.rows.1 c.if-other.false, c.requires.rows, c.args.self.few_rows)

pub returns-then-not-compare_edges : goal.returns-then-not-compare_edges
returns-then-not-compare_edges c =
    simp (ne_eqb _ _ c.if-other.false, ne_eqb _ _ c.if-other-image.false, sym c.compare_edges.ensures ∙ c.if-not-compare_edges.true)

pub returns : goal.returns
returns c =
    simp (ne_eqb _ _ c.if-other.false, ne_eqb _ _ c.if-other-image.false, sym c.compare_edges.ensures ∙ c.if-not-compare_edges.false)
