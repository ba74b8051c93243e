use native.Mathlib.Omega.{arith}
use Rattle.answers.proofs.Stores.{stored_none, stored_more, stored_room}
use Rattle.graph_writer.proofs.writer.write_rows.Goals as goal

pub loop-a-init : goal.loop-a-init
loop-a-init c = stored_none _ _ _ _

pub write_row-at-requires : goal.write_row-at-requires
write_row-at-requires c =
    (c.requires.0, c.requires.1, omega arith, stored_room _ _ _ _ _ _ _ c.loop-a.invariant c.loop-a-test.true c.requires.2)

pub loop-a-preserved : goal.loop-a-preserved
loop-a-preserved c =
    stored_more _ _ _ _ _ _ _ c.loop-a.invariant c.loop-a-test.true _ _ c.write_row-at.ensures.place c.write_row-at.ensures.bytes
