-- What the equal labels and the listed pairs give to each place is the set of the places whose labels agree with its own.
use mathlib.Core.Path.{◌≡◌, refl, sym, ap, ap₂, ◌∙◌}
use mathlib.Core.Bool.{Bool, true, false, cond, ◌&&◌, ◌||◌, or-false, and-or_distrib_left}
use mathlib.Core.List.{List}
use Prim.Native.Nat.{ℕ, ◌+◌, ◌*◌, ◌<◌}
use native.Mathlib.Omega.{arith}
use lib.Dec.{ltb, eqb}
use lib.ListN.{length, get_or}
use borrow.Author.Tests.{ltb-true}
use Rattle.bounded.specs.Below.{some_below}
use Rattle.bounded.proofs.SomeBelow.{some_below_and}
use Rattle.bitset.specs.Members.{union_of}
use Rattle.bitset.proofs.SetOf.{set_of_congr, union_of_set_of}
use Rattle.substitutes.specs.Substitutes.{pairs, label_at, old_label, new_label, pair_is, listed, agree}
use Rattle.substitutes.specs.Agreeing.{places_where, Places, having, first_having, puts, Equal, Joined, Spread, Agreeing}
use Rattle.substitutes.proofs.Having.{first_below, having_places, member_having, same_first}

module _ {old new list newLow newHigh equal : List ℕ} (nl : Places new 1 newLow) (nh : Places new 256 newHigh) (eq : Equal old newLow newHigh equal)
    (old-small : (u : ℕ) → get_or old u 0 < 65536) (new-small : (u : ℕ) → get_or new u 0 < 65536) where
  -- Without pairs labels agree where they are equal.
  pub equal_agreeing : pairs list ≡ 0 → Agreeing old new list equal
  unfolding agree listed some_below
  equal_agreeing none = record {
    entries = eq.entries;
    word = λ v h.
        eq.word v h
        ∙ ap (λ (w : ℕ). cond (ltb v (length old)) w 0)
        (having_places nl nh new-small (get_or old v 0) (old-small v) ∙ set_of_congr 64 _ _ (λ i b. rw (none, or-false) refl));
  }

  module _ {oldLow oldHigh joined words : List ℕ} (ol : Places old 1 oldLow) (oh : Places old 256 oldHigh)
      (j : Joined list oldLow oldHigh newLow newHigh joined) (s : Spread old oldLow oldHigh joined equal words) (bytes : (u : ℕ) → get_or list u 0 < 256) where
    -- the pairs of a place's own label are those that put to its first place
    own_pairs : (v i : ℕ) → v < 64 → v < length old → i < 64
        → some_below (pairs list) (puts list oldLow oldHigh newLow newHigh (first_having oldLow oldHigh (get_or old v 0)) i)
        ≡ (ltb i (length new) && listed list (get_or old v 0) (get_or new i 0))
    unfolding listed
    own_pairs v i h inside b =
        some_below_and (pairs list) (ltb i (length new)) _ (pair_is list (get_or old v 0) (get_or new i 0)) (λ k l.
        ap₂ ◌&&◌ (same_first ol oh old-small v (old_label list k) h inside (two_bytes (4 * k)))
        (member_having nl nh new-small (new_label list k) i (two_bytes (4 * k + 2)) b)
        ∙ regroup (ltb i (length new)) (eqb (old_label list k) (get_or old v 0)) (eqb (new_label list k) (get_or new i 0)))
      where
        two_bytes : (at : ℕ) → label_at list at < 65536
        two_bytes at = omega (arith, bytes at, bytes (at + 1))

        regroup : (t a b : Bool) → (a && (t && b)) ≡ (t && (a && b))
        regroup true a b = refl
        regroup false true b = refl
        regroup false false b = refl

    -- The places of equal labels and those of the listed pairs are all whose labels agree.
    pub spread_agreeing : Agreeing old new list words
    unfolding agree
    spread_agreeing = record { entries = s.entries; word = λ v h. s.word v h ∙ go v h (ltb v (length old)) refl }
      where
        go : (v : ℕ) → v < 64 → (t : Bool) → ltb v (length old) ≡ t
            → cond t (union_of (get_or equal v 0) (get_or joined (first_having oldLow oldHigh (get_or old v 0)) 0)) (get_or equal v 0)
            ≡ cond t (places_where new (agree list (get_or old v 0))) 0
        go v h true e =
            ap₂ union_of
            (eq.word v h ∙ ap (λ (t : Bool). cond t (having newLow newHigh (get_or old v 0)) 0) e ∙ having_places nl nh new-small (get_or old v 0) (old-small v))
            (j.joined (first_having oldLow oldHigh (get_or old v 0)) (first_below oldLow oldHigh (get_or old v 0)))
            ∙ union_of_set_of _ _
            ∙ set_of_congr 64 _ _ (λ i b.
            ap (λ (t : Bool). (ltb i (length new) && eqb (get_or old v 0) (get_or new i 0)) || t) (own_pairs v i h (ltb-true v (length old) e) b)
            ∙ sym (and-or_distrib_left (ltb i (length new)) (eqb (get_or old v 0) (get_or new i 0)) (listed list (get_or old v 0) (get_or new i 0))))
        go v h false e = eq.word v h ∙ rw e refl
