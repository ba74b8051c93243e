-- The loop that puts each place into the set of a byte of its label.
use mathlib.Core.Path.{◌≡◌, refl, ◌∙◌}
use mathlib.Core.Bool.{or_comm}
use mathlib.Core.List.{List}
use Prim.Native.Nat.{ℕ, ◌+◌, ◌/◌, ◌%◌}
use native.Mathlib.Omega.{arith}
use lib.Dec.{eqb}
use lib.ListN.{length, get_or, set}
use Rattle.bounded.proofs.SomeBelow.{some_below_at}
use Rattle.bitset.specs.Members.{member, insert}
use Rattle.bitset.proofs.SetOf.{set_of_congr}
use Rattle.substitutes.specs.Agreeing.{Places}
use Rattle.substitutes.proofs.Filled.{FilledTo, filled_more}

module _ (labels : List ℕ) (unit : ℕ) where
  abbrev pub byte_of : ℕ → ℕ
  byte_of w = get_or labels w 0 / unit % 256

  -- the places below w are put
  abbrev pub PlacedTo : ℕ → List ℕ → Type 0
  PlacedTo w sets = FilledTo 256 byte_of (λ j i. eqb i j) w sets

  pub placed_more : (w : ℕ) {sets : List ℕ} → PlacedTo w sets → {v : ℕ} → v ≡ insert (get_or sets (byte_of w) 0) w → PlacedTo (w + 1) (set sets (byte_of w) v)
  placed_more w {sets} p e =
      filled_more 256 byte_of (λ j i. eqb i j) p refl (omega arith) (e ∙ set_of_congr 64 _ _ (λ i b. or_comm (eqb i w) (member (get_or sets (byte_of w) 0) i)))

  pub placed_all : (w : ℕ) {sets : List ℕ} → w ≡ length labels → PlacedTo w sets → Places labels unit sets
  placed_all w q p = record {
    entries = p.entries;
    have = λ b h. rw (← q) (p.set_is b h ∙ set_of_congr 64 _ _ (λ i l. some_below_at w i (λ j. eqb b (byte_of j))));
  }
