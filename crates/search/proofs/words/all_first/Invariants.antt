-- `search::words::all_first` meets its contract: the rows passed have the rows that are met first.
-- Assumes nothing.
use mathlib.Core.Path.{◌≡◌}
use Prim.Native.Nat.{ℕ, ◌<◌}
use lib.ListN.{length, get_or}
use Rattle.search.specs.Rows.{Covers}
use Rattle.search.proofs.words.all_first.Given as goal

abbrev pub invariant-loop-row : goal.invariant-loop-row
invariant-loop-row l = (length l.rows-items ≡ 64) × ((r : ℕ) → r < l.row → Covers l.edges r (get_or l.rows-items r 0))
