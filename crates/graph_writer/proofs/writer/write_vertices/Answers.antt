use mathlib.Core.Path.{◌≡◌}
use Prim.Native.Nat.{◌<◌}
use native.Mathlib.Omega.{arith}
use lib.ListN.{take, get_or, length-take}
use lib.Seq.{get_or-take}
use Rattle.answers.proofs.Stores.{stored_none, stored_more, stored_room}
use Rattle.graph_writer.proofs.Length.{length_vertex}
use Rattle.graph_writer.proofs.writer.write_vertices.Goals as goal
use Rattle.graph_writer.proofs.writer.write_vertices.Goals.{In-loop-label}

-- the turn's label is that of a vertex below the order
below : (c : In-loop-label) → c.loop-label.label-index < c.args.graph.order
below c = omega (arith, c.loop-label-test.true, length-take c.args.graph.order c.args.graph.labels.now)

pub loop-label-init : goal.loop-label-init
loop-label-init c = stored_none _ _ _ _

-- and the one that the slice gives
same : (c : In-loop-label)
    → get_or (take c.args.graph.order c.args.graph.labels.now) c.loop-label.label-index 0 ≡ get_or c.args.graph.labels.now c.loop-label.label-index 0
same c = get_or-take _ _ _ 0 (below c)

pub put_vertex-at-requires : goal.put_vertex-at-requires
put_vertex-at-requires c =
    let turn = (goal.at.put_vertex-at-requires c).In-loop-label in
    let whole = stored_room _ _ _ _ _ _ _ c.loop-label.invariant (below turn) c.requires.3 in
    rw (same turn) (c.requires.2 _ (below turn), omega (arith, whole, length_vertex c.args.edition (get_or c.args.graph.labels.now c.loop-label.label-index 0)))

pub loop-label-preserved : goal.loop-label-preserved
loop-label-preserved c =
    let turn = (goal.at.loop-label-preserved c).In-loop-label in
    stored_more _ _ _ _ _ _ _ c.loop-label.invariant (below turn) _ _
    (omega (arith, c.put_vertex-at.ensures.place, length_vertex c.args.edition (get_or c.args.graph.labels.now c.loop-label.label-index 0)))
    (rw (same turn) at c.put_vertex-at.ensures.bytes)
