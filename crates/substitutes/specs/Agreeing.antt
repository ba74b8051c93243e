-- The sets of places whose labels agree with a given one's: what candidates read of 02, U1, "Candidates, the list check and good matching read this rule";
-- and the tables by byte that they are made from, as 02, U6, has labels of two bytes.
use Rattle.std.specs.Prelude.{◌≡◌, Bool, cond, ◌&&◌, List, Option, ℕ, ◌/◌, ◌%◌, ◌<◌, ltb, eqb, length, get_or, unwrap_or}
use Rattle.bounded.specs.Below.{some_below}
use Rattle.bitset.specs.Members.{member, set_of, meet_of, union_of}
use Rattle.bitset.specs.Least.{least_member}
use Rattle.substitutes.specs.Substitutes.{pairs, old_label, new_label, agree}

-- the places below 64 of these labels whose label passes a test
abbrev pub places_where : List ℕ → (ℕ → Bool) → ℕ
places_where labels test = set_of 64 (λ w. ltb w (length labels) && test (get_or labels w 0))

-- for each byte, the places whose label has it: as its low byte where the unit is 1, as its high byte where it is 256
pub record Places (labels : List ℕ) (unit : ℕ) (sets : List ℕ) : Type 0 where
  pub entries : length sets ≡ 256
  pub have : (b : ℕ) → b < 256 → get_or sets b 0 ≡ places_where labels (λ a. eqb b (a / unit % 256))

-- the places that have both bytes of label a, by a table of low bytes and one of high bytes
abbrev pub having : List ℕ → List ℕ → ℕ → ℕ
having low high a = meet_of (get_or low (a % 256) 0) (get_or high (a / 256) 0)

-- 64 stands for no place
abbrev pub place_of : Option ℕ → ℕ
place_of found = unwrap_or found 64

-- the first place that has label a
abbrev pub first_having : List ℕ → List ℕ → ℕ → ℕ
first_having low high a = place_of (least_member (having low high a))

-- for each of the first 64 places of `old`, the set of the places that have its label, and nothing past the last
pub record Equal (old low high words : List ℕ) : Type 0 where
  pub entries : length words ≡ 64
  pub word : (v : ℕ) → v < 64 → get_or words v 0 ≡ cond (ltb v (length old)) (having low high (get_or old v 0)) 0

-- pair k of the list puts i into the set of place r: r is the first that has the old label, and i has the new one
abbrev pub puts : List ℕ → List ℕ → List ℕ → List ℕ → List ℕ → ℕ → ℕ → ℕ → Bool
puts list oldLow oldHigh newLow newHigh r i k =
    eqb r (first_having oldLow oldHigh (old_label list k)) && member (having newLow newHigh (new_label list k)) i

-- for each place that is the first of its label, what the pairs of that label put there; those of labels that no place has stand at 64
pub record Joined (list oldLow oldHigh newLow newHigh sets : List ℕ) : Type 0 where
  pub entries : length sets ≡ 65
  pub joined : (r : ℕ) → r < 65 → get_or sets r 0 ≡ set_of 64 (λ i. some_below (pairs list) (puts list oldLow oldHigh newLow newHigh r i))

-- each of the first 64 places of `old` has the set of the first place of its label added
pub record Spread (old low high joined equal words : List ℕ) : Type 0 where
  pub entries : length words ≡ 64
  pub word : (v : ℕ) → v < 64 → get_or words v 0
      ≡ cond (ltb v (length old)) (union_of (get_or equal v 0) (get_or joined (first_having low high (get_or old v 0)) 0)) (get_or equal v 0)

-- for each of the first 64 places of `old`, the places of `new` whose labels agree with its own, and nothing past the last
pub record Agreeing (old new list words : List ℕ) : Type 0 where
  pub entries : length words ≡ 64
  pub word : (v : ℕ) → v < 64 → get_or words v 0 ≡ cond (ltb v (length old)) (places_where new (agree list (get_or old v 0))) 0
