-- `substitutes::sets::LabelPlaces::spread` meets its contract: the places passed have the sets of the first places of their labels added.
-- Assumes nothing.
use mathlib.Core.Bool.{cond}
use Prim.Native.Nat.{◌≤◌}
use lib.Dec.{ltb}
use lib.ListN.{length, get_or}
use Rattle.bounded.proofs.Settled.{SettledTo}
use Rattle.bitset.specs.Members.{union_of}
use Rattle.substitutes.specs.Agreeing.{first_having}
use Rattle.substitutes.proofs.sets.LabelPlaces.spread.Given as goal

abbrev pub invariant-loop-v : goal.invariant-loop-v
invariant-loop-v l =
    (l.v ≤ 64) × SettledTo (λ u. cond (ltb u (length l.old)) (union_of (get_or l.equal u 0) (get_or l.joined (first_having l.self.low.now l.self.high.now (get_or l.old u 0)) 0)) (get_or l.equal u 0)) l.equal l.v l.words
