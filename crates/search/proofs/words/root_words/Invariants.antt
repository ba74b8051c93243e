-- `search::words::root_words` meets its contract: row by row the words are stored, and the rows that have one are gathered (`RootTurn`).
-- Assumes nothing.
use mathlib.Core.Path.{◌≡◌}
use Prim.Native.Nat.{◌≤◌}
use lib.ListN.{length}
use Rattle.problem.specs.Problem.{Problem}
use Rattle.problem.specs.VertexSets.{AllowedSets}
use Rattle.search.proofs.RootTurn.{RootTo}
use Rattle.search.proofs.words.root_words.Given as goal

abbrev pub invariant-loop-r : goal.invariant-loop-r
invariant-loop-r l =
    (l.r ≤ l.order) × (length l.workspace ≡ length l.initial.workspace)
    × ((P : Problem) → P.old.order ≡ l.order → AllowedSets P l.allowed → RootTo P l.initial.workspace l.workspace l.r l.rows)
