-- `search::words::first_rows` meets its contract: a row passed that is not in the word has no edge to `row`.
-- Assumes nothing.
use mathlib.Core.Path.{◌≡◌}
use mathlib.Core.Bool.{false}
use mathlib.Core.List.{List}
use Prim.Native.Nat.{ℕ, ◌<◌}
use lib.ListN.{get_or}
use Rattle.bitset.specs.Members.{member}
use Rattle.graph.specs.Graph.{place}
use Rattle.search.proofs.words.first_rows.Given as goal

-- the rows passed that are not in the word have no edge to `row`
abbrev pub Passed : List ℕ → ℕ → ℕ → ℕ → Type 0
Passed edges row word r = (k : ℕ) → row < k → k < r → member word k ≡ false → get_or edges (place row k) 0 ≡ 0

abbrev pub invariant-loop-r : goal.invariant-loop-r
invariant-loop-r l = Passed l.edges l.from l.word l.r
