-- `substitutes::sets::joined` meets its contract: the pairs passed have put the places of their new labels.
-- Assumes nothing.
use Prim.Native.Nat.{◌≤◌}
use Rattle.bitset.specs.Members.{member}
use Rattle.substitutes.specs.Substitutes.{old_label, new_label}
use Rattle.substitutes.specs.Agreeing.{having, first_having}
use Rattle.substitutes.proofs.Filled.{FilledTo}
use Rattle.substitutes.proofs.sets.joined.Given as goal

abbrev pub invariant-loop-k : goal.invariant-loop-k
invariant-loop-k l =
    (l.k ≤ l.count) × FilledTo 65 (λ j. first_having l.old_places.low.now l.old_places.high.now (old_label l.list j)) (λ j i. member (having l.new_places.low.now l.new_places.high.now (new_label l.list j)) i) l.k l.sets
