-- `search::walk::row_numbers` meets its contract: the numbers of the rows passed are stored. Assumes nothing.
use mathlib.Core.Path.{◌≡◌}
use Prim.Native.Nat.{ℕ, ◌+◌, ◌<◌}
use lib.ListN.{length, get_or}
use Rattle.search.proofs.walk.row_numbers.Given as goal

abbrev pub invariant-loop-row : goal.invariant-loop-row
invariant-loop-row l = (length l.number-items ≡ 64) × ((k : ℕ) → k < l.row → get_or l.number-items k 0 ≡ k + 1)
