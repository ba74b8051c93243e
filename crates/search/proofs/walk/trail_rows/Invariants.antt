-- `search::walk::trail_rows` meets its contract: the rows of the last pairs are gathered, one a turn (`TrailRows`). Assumes nothing.
use mathlib.Core.Path.{◌≡◌}
use mathlib.Core.List.{List}
use Prim.Native.Nat.{ℕ, ◌≤◌}
use lib.ListN.{length, take}
use Rattle.mapping.specs.Common.{size}
use Rattle.search.specs.Walking.{OnTrail}
use Rattle.search.proofs.TrailRows.{Gathered}
use Rattle.search.proofs.walk.trail_rows.Given as goal

abbrev pub invariant-loop-before : goal.invariant-loop-before
invariant-loop-before l =
    (path : List ℕ) (depth : ℕ) (ws : List ℕ) → length path ≡ 64 → depth ≤ 64 → l.pairs ≡ size (take depth path) → OnTrail path depth l.trail ws
    → Gathered path depth l.before l.set
