-- `clique::candidates::taken` meets its contract: the set holds the vertices of the rows looked at so far.
-- Assumes nothing.
use mathlib.Core.Path.{◌≡◌}
use mathlib.Core.List.{List}
use Prim.Native.Nat.{ℕ, ◌≤◌}
use lib.Dec.{eqb}
use lib.ListN.{get_or}
use Rattle.bounded.specs.Below.{some_below}
use Rattle.bitset.specs.Members.{set_of}
use Rattle.clique.proofs.candidates.taken.Given as goal

-- the vertices that the first k rows take
abbrev pub taken_before : List ℕ → ℕ → ℕ
taken_before path k = set_of 64 (λ v. some_below k (λ i. eqb v (get_or path i 0)))

abbrev pub invariant-loop-i : goal.invariant-loop-i
invariant-loop-i l = (l.set ≡ taken_before l.path l.i) × (l.i ≤ l.depth)
