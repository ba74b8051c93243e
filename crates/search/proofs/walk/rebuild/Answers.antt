use mathlib.Core.Path.{refl}
use Prim.Native.Nat.{◌<◌}
use native.Mathlib.Omega.{arith}
use Rattle.search.proofs.NodeWords.{size_mapped, entry_max}
use Rattle.search.proofs.Trails.{trail_none, trail_kept, trail_left_out, trail_taken}
use Rattle.search.proofs.RebuildTurn.{rebuilt_none, rebuilt_left_out, rebuilt_taken}
use Rattle.search.proofs.walk.rebuild.Goals as goal
use Rattle.search.proofs.walk.rebuild.Goals.{After-count_open-later, At-loop-row, Then-value, else-value, then-value}

pub loop-row-init : goal.loop-row-init
loop-row-init c = (rebuilt_none, trail_none _ _ _ c.requires.trail_len)

-- a row of the path that is not left out, at the loop's head
row_inside : (c : At-loop-row) → c.loop-row.row < c.args.depth → c.loop-row.row < 64
row_inside c h = omega (arith, c.requires.in_bounds.depth_max)

pub loop-row-preserved : goal.loop-row-preserved
loop-row-preserved c =
    let bounds = c.requires.in_bounds in
    let l = c.loop-row in
    let path = c.args.path.now in
    let below = c.loop-row-test.true in
    let inside = row_inside (goal.at.loop-row-preserved c).At-loop-row below in
    elim c.if-value.branch [
      | then-value w ↦ let small = entry_max bounds l.row below w.if-value.true in
          let more = size_mapped path l.row (omega (arith, bounds.path_length)) w.if-value.true in
          rw (w.trail-is, w.workspace-is, w.pairs-is) (
            rebuilt_taken bounds.path_length bounds.depth_max below w.if-value.true (w.refine.ensures.whole (omega arith)).1 l.invariant.0,
            trail_kept (omega (arith, bounds.path_length)) (λ p h. w.refine.ensures.kept.sets p (omega (arith, l.invariant.0.pairs_are)))
                (trail_taken bounds.path_length inside l.invariant.0.pairs_are small (record { row_is = refl; value_is = refl; later_is = w.count_open-later.ensures }) l.invariant.1),
          )
      | else-value w ↦ rw (w.trail-is, w.workspace-is, w.pairs-is) (rebuilt_left_out below w.if-value.false l.invariant.0, trail_left_out w.if-value.false l.invariant.1)
    ]
