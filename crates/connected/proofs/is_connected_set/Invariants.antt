-- `connected::is_connected_set` meets its contract: the front and the rest spread on to the same answer, and each round leaves fewer in both.
-- Assumes nothing.
use mathlib.Core.Path.{◌≡◌}
use Prim.Native.Nat.{ℕ, ◌+◌, ◌≤◌}
use lib.ListN.{get_or}
use Rattle.bitset.specs.Count.{size}
use Rattle.connected.specs.Spreading.{connected_set, spreads}
use Rattle.connected.proofs.is_connected_set.Given as goal

-- with rounds enough, the front spreads over the rest exactly where the set hangs together
pub record SpreadsOn (near : ℕ → ℕ) (set rest front : ℕ) : Type 0 where
  pub rounds : ℕ
  pub enough : size front + size rest ≤ rounds
  pub same : spreads near rounds front rest ≡ connected_set near set

abbrev pub invariant-loop-v : goal.invariant-loop-v
invariant-loop-v l = SpreadsOn (λ v. get_or l.neighbours v 0) l.set l.rest l.front

abbrev pub decreases-loop-v : goal.decreases-loop-v
decreases-loop-v l = size l.front + size l.rest
