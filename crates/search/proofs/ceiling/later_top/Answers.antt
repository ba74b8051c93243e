use mathlib.Core.Path.{◌≡◌, refl}
use Prim.Native.Nat.{◌+◌, ◌-◌}
use native.Mathlib.Omega.{arith}
use lib.ListN.{take}
use Rattle.mapping.specs.Common.{size}
use Rattle.search.proofs.NodeWords.{size_take_max, entry_max}
use Rattle.search.proofs.LaterTop.{level_left_out, level_pairs, level_counted, level_skipped, levels_all}
use Rattle.search.proofs.ceiling.later_top.Goals as goal
use Rattle.search.proofs.ceiling.later_top.Goals.{Then-last}

-- a level with a pair has one pair more than its node
pairs_left : (c : Then-last) → c.loop-row.left ≡ size (take (c.loop-row.row - 1) c.args.path.now) + 1
pairs_left c =
    level_pairs c.requires (c.loop-row.row - 1) (omega arith) c.loop-row.invariant c.if-last.true

pub overflow_sub-left : goal.overflow_sub-left
overflow_sub-left c = omega (arith, pairs_left c)

pub row_top-above-requires : goal.row_top-above-requires
row_top-above-requires c =
    let pre = c.requires in
    let inv = c.loop-row.invariant in record {
      room = omega (arith, pre.room, inv.kept.words);
      row_bound = (
        omega (arith, pre.depth_max, inv.k_max),
        omega (arith, pairs_left (goal.at.row_top-above-requires c).Then-last, size_take_max c.args.path.now (c.loop-row.row - 1)),
        entry_max pre (c.loop-row.row - 1) (omega arith) c.if-last.true,
      );
    }

pub loop-row-preserved-then-top-limit : goal.loop-row-preserved-then-top-limit
loop-row-preserved-then-top-limit c =
    let own = c.row_top-above.ensures in
    level_counted c.requires (c.loop-row.row - 1) (omega arith) c.loop-row.invariant c.if-last.true own.kept own.top refl (omega (arith, c.max-top.ensures))

pub loop-row-preserved-else-top-limit : goal.loop-row-preserved-else-top-limit
loop-row-preserved-else-top-limit c =
    let mapped = c.if-last.true in
    level_skipped c.requires (c.loop-row.row - 1) (omega arith) c.loop-row.invariant mapped (omega (arith, c.if-top-limit.false, c.count_open.ensures))

pub loop-row-preserved : goal.loop-row-preserved
loop-row-preserved c =
    level_left_out c.requires (c.loop-row.row - 1) (omega arith) c.loop-row.invariant c.if-last.false

pub returns : goal.returns
returns c = levels_all c.requires (omega arith) c.loop-row.invariant
