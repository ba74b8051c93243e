-- `graph_writer::writer::write_sound` meets its contract: the opening, the vertices, the rows and the end are stored one after the other (`WriteSections`).
-- Assumes nothing.
use mathlib.Core.Path.{◌∙◌}
use Prim.Native.Nat.{◌+◌, ◌*◌, ◌≤◌, ◌<◌}
use native.Mathlib.Omega.{arith}
use lib.ListN.{length, length-set}
use Rattle.bounded.specs.Below.{run_below}
use Rattle.graph.specs.Lent.{lent_graph}
use Rattle.graph_reader.specs.Editions.{opening_width}
use Rattle.graph_writer.specs.Writing.{vertex_bytes, front_length, row_bytes}
use Rattle.graph_writer.proofs.Length.{edge_count_max, front_max, longest_max}
use Rattle.graph_writer.proofs.WriteSections.{short_refused, front_room, rows_room, sections_fill}
use Rattle.graph_writer.proofs.writer.write_sound.Goals as goal
use Rattle.graph_writer.proofs.writer.write_sound.Goals.{After-count_edges, Else-out-total}

-- the bytes before the edges are few, and so are the edges
few : (c : After-count_edges) → (c.front_length-front.result ≤ 8515) × (c.count_edges.result ≤ 2080)
few c = (
  omega (arith, c.front_length-front.ensures, front_max c.args.edition c.args.graph.order c.requires.2, longest_max c.args.edition),
  omega (arith, c.count_edges.ensures, edge_count_max (lent_graph c.args.graph) c.requires.2),
)

-- where the total has room, in terms of the edition
total_fits : (c : Else-out-total)
    → let a = c.args in front_length a.edition a.graph.order + 4 * c.count_edges.result + 1 ≤ length a.out.now
total_fits c = omega (arith, c.if-out-total.false, c.front_length-front.ensures)

-- there is room for the opening, and for the vertices after it
front_fits : (c : Else-out-total)
    → let a = c.args in
    opening_width a.edition + length (run_below a.graph.order (vertex_bytes a.edition (lent_graph a.graph))) ≤ length a.out.now
front_fits c =
    let a = c.args in
    front_room a.edition (lent_graph a.graph) a.out.now c.count_edges.result (total_fits c)

-- and after the vertices for the rows, and for the end after them
rows_fit : (c : Else-out-total)
    → let a = c.args in
    front_length a.edition a.graph.order + length (run_below a.graph.order (row_bytes (lent_graph a.graph))) < length a.out.now
rows_fit c =
    let a = c.args in
    rows_room a.edition (lent_graph a.graph) a.out.now c.count_edges.result c.count_edges.ensures (total_fits c)

pub overflow_mul-total : goal.overflow_mul-total
overflow_mul-total c = omega (arith, (few c).1)

pub overflow_add-total : goal.overflow_add-total
overflow_add-total c = omega (arith, (few c).0, (few c).1)

pub overflow_add-total-2 : goal.overflow_add-total-2
overflow_add-total-2 c = omega (arith, (few c).0, (few c).1)

pub returns-then-out-total : goal.returns-then-out-total
returns-then-out-total c =
    short_refused _ _ _ c.front_length-front.ensures _ c.count_edges.ensures _ c.if-out-total.true

pub put_opening-first-requires : goal.put_opening-first-requires
put_opening-first-requires c = omega (arith, front_fits (goal.at.put_opening-first-requires c).Else-out-total)

pub write_vertices-requires : goal.write_vertices-requires
write_vertices-requires c =
    (c.requires.0, c.requires.2, c.requires.3, omega (arith, front_fits (goal.at.write_vertices-requires c).Else-out-total, c.put_opening-first.ensures.place, c.put_opening-first.auto.out))

pub write_rows-end-requires : goal.write_rows-end-requires
write_rows-end-requires c =
    (c.requires.1, c.requires.2, omega (arith, rows_fit (goal.at.write_rows-end-requires c).Else-out-total, c.front_length-front.ensures, c.put_opening-first.auto.out, c.write_vertices.auto.out))

pub bounds-out-end : goal.bounds-out-end
bounds-out-end c =
    omega (
      arith,
      rows_fit (goal.at.bounds-out-end c).Else-out-total,
      c.front_length-front.ensures,
      c.write_rows-end.ensures.place,
      c.put_opening-first.auto.out,
      c.write_vertices.auto.out,
      c.write_rows-end.auto.out,
    )

pub shape_of-out : goal.shape_of-out
shape_of-out c =
    simp length-set (c.write_rows-end.auto.out ∙ c.write_vertices.auto.out ∙ c.put_opening-first.auto.out)

pub returns : goal.returns
returns c =
    sections_fill _ _ _ c.front_length-front.ensures _ c.count_edges.ensures _ c.if-out-total.false _ _ _ _ _
    c.put_opening-first.ensures.place c.put_opening-first.ensures.bytes c.write_vertices.ensures
    c.write_rows-end.ensures.place c.write_rows-end.ensures.bytes
