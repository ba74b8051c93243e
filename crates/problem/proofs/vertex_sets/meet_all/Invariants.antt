-- `problem::vertex_sets::meet_all` meets its contract: the words passed have met those of the other list.
-- Assumes nothing.
use Prim.Native.Nat.{◌≤◌}
use lib.ListN.{get_or, replicate}
use Rattle.bitset.specs.Members.{meet_of}
use Rattle.bounded.proofs.Settled.{SettledTo}
use Rattle.problem.proofs.vertex_sets.meet_all.Given as goal

abbrev pub invariant-loop-v : goal.invariant-loop-v
invariant-loop-v l = (l.v ≤ 64) × SettledTo (λ u. meet_of (get_or l.first u 0) (get_or l.second u 0)) (replicate 64 0) l.v l.words
