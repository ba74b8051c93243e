-- `graph_reader::reader::read_commands` meets its contract: each turn of the loop keeps what the whole bytes read to (`ReadLoop`).
-- Assumes nothing.
use Prim.Native.Nat.{◌-◌}
use lib.ListN.{length}
use mathlib.Core.Path.{◌≡◌}
use Rattle.graph_reader.proofs.ReadLoop.{Head}
use Rattle.graph_reader.proofs.reader.read_commands.Given as goal

abbrev pub invariant-loop-grown : goal.invariant-loop-grown
invariant-loop-grown l =
    record {
      same_bytes : l.reader.bytes.now ≡ l.bytes;
      same_edition : l.reader.edition ≡ l.fn.from;
      head : Head l.fn.from l.to l.bytes l.labels l.edges l.order l.reader.at;
    }

abbrev pub decreases-loop-grown : goal.decreases-loop-grown
decreases-loop-grown l = length l.bytes - l.reader.at
