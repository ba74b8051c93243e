-- The places that have a label, by the tables of its two bytes; the first of them, if there is one, stands for the label.
use mathlib.Core.Path.{◌≡◌, refl, sym, ap, ap₂, ◌∙◌}
use mathlib.Core.Bool.{Bool, true, false, ◌&&◌, and-false, and-eq-true_iff, true≢false}
use mathlib.Core.List.{List}
use Prim.Native.Nat.{ℕ, ◌/◌, ◌%◌, ◌<◌}
use native.Mathlib.Decide.{ℕ_discrete}
use native.Mathlib.Omega.{arith}
use lib.Dec.{ltb, eqb}
use lib.ListN.{length, get_or}
use borrow.Author.Tests.{lt-ltb, eqb-true, eq-eqb, ne_eqb}
use Rattle.bitset.specs.Members.{member, meet_of}
use Rattle.bitset.specs.Least.{least_member}
use Rattle.std.specs.Prelude.{Option}
use Rattle.std.specs.Prelude.{Some, None}
use Rattle.bitset.proofs.SetOf.{set_of_congr, member_set_of, meet_of_set_of}
use Rattle.bitset.proofs.LeastBelow.{least_below_member, least_below_empty}
use Rattle.substitutes.specs.Agreeing.{places_where, Places, having, place_of, first_having}

-- 64 stands for no place, and no place is above.
pub first_below : (low high : List ℕ) (a : ℕ) → first_having low high a < 65
first_below low high a = go (least_member (having low high a)) refl
  where
    go : (l : Option ℕ) → least_member (having low high a) ≡ l → place_of l < 65
    go (Some v) e = omega (arith, (least_below_member 64 (member (having low high a)) e).below)
    go None e = omega arith

-- Labels are equal where both their bytes are.
bytes_equal : (a b : ℕ) → a < 65536 → b < 65536 → (eqb (a % 256) (b / 1 % 256) && eqb (a / 256) (b / 256 % 256)) ≡ eqb a b
bytes_equal a b ha hb = go (ℕ_discrete a b) (ℕ_discrete (a % 256) (b % 256))
  where
    go : Dec (a ≡ b) → Dec (a % 256 ≡ b % 256) → (eqb (a % 256) (b / 1 % 256) && eqb (a / 256) (b / 256 % 256)) ≡ eqb a b
    go (yes q) d = rw (eq-eqb (a % 256) (b / 1 % 256) (omega arith), eq-eqb (a / 256) (b / 256 % 256) (omega arith), eq-eqb a b q) refl
    go (no ne) (yes l) = rw (ne_eqb (a / 256) (b / 256 % 256) (λ e. ne (omega arith)), ne_eqb a b ne) (and-false (eqb (a % 256) (b / 1 % 256)))
    go (no ne) (no l) = rw (ne_eqb (a % 256) (b / 1 % 256) (λ e. l (omega arith)), ne_eqb a b ne) refl

module _ {labels low high : List ℕ} (l : Places labels 1 low) (h : Places labels 256 high) (small : (u : ℕ) → get_or labels u 0 < 65536) where
  -- The places in the sets of both bytes are those that have the label.
  pub having_places : (a : ℕ) → a < 65536 → having low high a ≡ places_where labels (eqb a)
  having_places a s =
      ap₂ meet_of (l.have (a % 256) (omega arith)) (h.have (a / 256) (omega arith))
      ∙ meet_of_set_of 64 _ _ (omega arith)
      ∙ set_of_congr 64 _ _ (λ i b. regroup (ltb i (length labels)) _ _ ∙ ap (λ (t : Bool). ltb i (length labels) && t) (bytes_equal a (get_or labels i 0) s (small i)))
    where
      regroup : (t b c : Bool) → ((t && b) && (t && c)) ≡ (t && (b && c))
      regroup true b c = refl
      regroup false b c = refl

  -- A place is a member where it has the label.
  pub member_having : (a i : ℕ) → a < 65536 → i < 64 → member (having low high a) i ≡ (ltb i (length labels) && eqb a (get_or labels i 0))
  member_having a i s b = ap (λ (set : ℕ). member set i) (having_places a s) ∙ member_set_of 64 _ i b

  -- The first place of a label has it,
  first_has : (a : ℕ) → a < 65536 → first_having low high a < 64 → a ≡ get_or labels (first_having low high a) 0
  first_has a s = go (least_member (having low high a)) refl
    where
      go : (f : Option ℕ) → least_member (having low high a) ≡ f → place_of f < 64 → a ≡ get_or labels (place_of f) 0
      go (Some v) e b =
          let passes = (least_below_member 64 (member (having low high a)) e).passes in
          eqb-true a (get_or labels v 0) ((and-eq-true_iff (ltb v (length labels)) (eqb a (get_or labels v 0))).0 (sym (member_having a v s b) ∙ passes)).1
      go None e b = absurd (omega arith)

  -- and the label of a place has a first place.
  has_first : (v : ℕ) → v < 64 → v < length labels → first_having low high (get_or labels v 0) < 64
  has_first v b inside = go (least_member (having low high (get_or labels v 0))) refl
    where
      go : (f : Option ℕ) → least_member (having low high (get_or labels v 0)) ≡ f → place_of f < 64
      go (Some w) e = (least_below_member 64 (member (having low high (get_or labels v 0))) e).below
      go None e =
          absurd
          (true≢false
          (rw (lt-ltb v (length labels) inside, eq-eqb (get_or labels v 0) (get_or labels v 0) refl) at (sym (member_having (get_or labels v 0) v (small v) b))
          ∙ least_below_empty 64 (member (having low high (get_or labels v 0))) e v b))

  -- So labels have the same first place only where they are equal, if one of them is that of a place.
  pub same_first : (v a : ℕ) → v < 64 → v < length labels → a < 65536
      → eqb (first_having low high (get_or labels v 0)) (first_having low high a) ≡ eqb a (get_or labels v 0)
  same_first v a b inside s = go (ℕ_discrete a (get_or labels v 0))
    where
      go : Dec (a ≡ get_or labels v 0) → eqb (first_having low high (get_or labels v 0)) (first_having low high a) ≡ eqb a (get_or labels v 0)
      go (yes q) = rw (eq-eqb a (get_or labels v 0) q) (eq-eqb _ _ (ap (first_having low high) (sym q)))
      go (no ne) =
          rw (ne_eqb a (get_or labels v 0) ne)
          (ne_eqb _ _ (λ e.
          let first = has_first v b inside in
          ne (first_has a s (omega arith) ∙ ap (λ (r : ℕ). get_or labels r 0) (sym e) ∙ sym (first_has (get_or labels v 0) (small v) first))))
