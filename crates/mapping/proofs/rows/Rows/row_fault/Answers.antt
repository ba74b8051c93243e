-- `mapping::rows::Rows::row_fault` meets its contract: at each return the tests that led there say what `lent_row` computes to.
-- Assumes nothing.
use borrow.Author.Tests.{eq-eqb, ne_eqb, lt-ltb, le-ltb}
use mathlib.Core.Path.{sym, ◌∙◌}
use Prim.Native.Nat.{◌<◌}
use native.Mathlib.Omega.{arith}
use lib.ListN.{get_or}
use Rattle.mapping.specs.LentRows.{lent_row}
use Rattle.mapping.proofs.rows.Rows.row_fault.Goals as goal
use Rattle.mapping.proofs.rows.Rows.row_fault.Goals.{Else-self-w}

pub returns-then-image : goal.returns-then-image
unfolding lent_row
returns-then-image c = simp (eq-eqb _ _ c.if-image.true)

pub returns-then-self-w : goal.returns-then-self-w
unfolding lent_row
returns-then-self-w c = simp (ne_eqb _ _ c.if-image.false, le-ltb _ _ c.if-self-w.true)

pub returns-then-not-compare_vertices : goal.returns-then-not-compare_vertices
unfolding lent_row
returns-then-not-compare_vertices c =
    simp (
      ne_eqb _ _ c.if-image.false,
      lt-ltb _ _ c.if-self-w.false,
      sym c.compare_vertices.ensures ∙ c.if-not-compare_vertices.true,
    )

-- the row's image, once it is known to be a new vertex, is a place of the tables
below : (e : Else-self-w) → get_or e.args.self.mapping.now e.args.v.0 0 < 64
below e = omega (arith, e.if-self-w.false, e.args.self.new_order_max)

pub compare_edges-requires : goal.compare_edges-requires
compare_edges-requires c =
    let row : c.args.v.0 < 64 = omega (arith, c.args.self.few_rows, c.requires.0) in (c.args.self.edges_long, row, row, below (goal.at.compare_edges-requires c).Else-self-w, below (goal.at.compare_edges-requires c).Else-self-w)

pub returns-then-not-compare_edges : goal.returns-then-not-compare_edges
unfolding lent_row
returns-then-not-compare_edges c =
    simp (
      ne_eqb _ _ c.if-image.false,
      lt-ltb _ _ c.if-self-w.false,
      sym c.compare_vertices.ensures ∙ c.if-not-compare_vertices.false,
      sym c.compare_edges.ensures ∙ c.if-not-compare_edges.true,
    )

pub first_clash-requires : goal.first_clash-requires
first_clash-requires c =
    record { row = c.requires.0; below = (below (goal.at.first_clash-requires c).Else-self-w, c.requires.1) }

pub returns : goal.returns
unfolding lent_row
returns c =
    simp (
      ne_eqb _ _ c.if-image.false,
      lt-ltb _ _ c.if-self-w.false,
      sym c.compare_vertices.ensures ∙ c.if-not-compare_vertices.false,
      sym c.compare_edges.ensures ∙ c.if-not-compare_edges.false,
    )
    c.first_clash.ensures
