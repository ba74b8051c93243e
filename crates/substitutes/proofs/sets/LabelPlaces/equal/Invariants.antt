-- `substitutes::sets::LabelPlaces::equal` meets its contract: the places passed have the sets of their labels.
-- Assumes nothing.
use mathlib.Core.Bool.{cond}
use Prim.Native.Nat.{◌≤◌}
use lib.Dec.{ltb}
use lib.ListN.{length, get_or, replicate}
use Rattle.bounded.proofs.Settled.{SettledTo}
use Rattle.substitutes.specs.Agreeing.{having}
use Rattle.substitutes.proofs.sets.LabelPlaces.equal.Given as goal

abbrev pub invariant-loop-v : goal.invariant-loop-v
invariant-loop-v l =
    (l.v ≤ 64) × SettledTo (λ u. cond (ltb u (length l.old)) (having l.self.low.now l.self.high.now (get_or l.old u 0)) 0) (replicate 64 0) l.v l.words
