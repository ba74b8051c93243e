-- The rows of a set met in two parts, one after the other, are met as one set.
use mathlib.Core.Path.{◌≡◌, refl, sym, ap, ◌∙◌}
use mathlib.Core.Bool.{Bool, true, false, not, true≢false, ◌&&◌, ◌||◌, and-eq-true_iff}
use mathlib.Core.List.{List}
use Prim.Native.Nat.{ℕ, ◌+◌, ◌*◌, ◌≤◌, ◌<◌}
use native.Mathlib.Omega.{arith}
use lib.Dec.{eqb}
use lib.ListN.{get_or}
use Rattle.bitset.specs.Members.{member, meet_of, difference_of}
use Rattle.bitset.specs.Count.{count_below, size}
use Rattle.bitset.proofs.SetOf.{member_set_of}
use Rattle.bitset.proofs.CountBelow.{count_below_congr, count_below_mono, count_below_parts}
use Rattle.search.specs.Words.{lost_rows, Met}
use Rattle.search.specs.declared.words.Kept.{Kept}

-- near is a part of the set, and far the rest
pub record Parts (s near far : ℕ) : Type 0 where
  pub within : (m : ℕ) → m < 64 → member near m ≡ true → member s m ≡ true
  pub rest : (m : ℕ) → m < 64 → member far m ≡ (member s m && not (member near m))

-- What two sets have in common is a part of the first.
pub parts_meet : (s n : ℕ) {near far : ℕ} → near ≡ meet_of s n → far ≡ difference_of s near → Parts s near far
parts_meet s n {near} {far} near-is far-is = record {
  within = λ m h e.
      ((and-eq-true_iff (member s m) (member n m)).0 (sym (member_set_of 64 (λ i. member s i && member n i) m h) ∙ ap (λ (w : ℕ). member w m) (sym near-is) ∙ e)).0;
  rest = λ m h. rw far-is (member_set_of 64 (λ i. member s i && not (member near i)) m h);
}

module _ {s near far : ℕ} (parts : Parts s near far) where
  -- a test counted over both parts is counted over the set
  count_parts : (t : ℕ → Bool) → count_below 64 (λ m. member near m && t m) + count_below 64 (λ m. member far m && t m) ≡ count_below 64 (λ m. member s m && t m)
  count_parts t =
      let first = count_below_congr 64 (λ m. member near m && t m) (λ m. (member s m && t m) && member near m)
      (λ m h. in_near (member near m) (member s m) (t m) (parts.within m h)) in
      let second = count_below_congr 64 (λ m. member far m && t m) (λ m. (member s m && t m) && not (member near m))
      (λ m h. rw (parts.rest m h) (in_far (member near m) (member s m) (t m))) in
      omega (arith, count_below_parts 64 (λ m. member s m && t m) (member near))
    where
      in_near : (n a b : Bool) → (n ≡ true → a ≡ true) → (n && b) ≡ ((a && b) && n)
      in_near true a true h = rw (h refl) refl
      in_near true a false h = rw (h refl) refl
      in_near false true true h = refl
      in_near false true false h = refl
      in_near false false b h = refl

      in_far : (n a b : Bool) → ((a && not n) && b) ≡ ((a && b) && not n)
      in_far true true true = refl
      in_far true true false = refl
      in_far false true true = refl
      in_far false true false = refl
      in_far n false b = refl

  -- The parts' sizes make the set's,
  pub size_parts : size near + size far ≡ size s
  size_parts = omega (arith, count_parts (λ m. true), all near, all far, all s)
    where
      all : (a : ℕ) → count_below 64 (λ m. member a m && true) ≡ size a
      all a = count_below_congr 64 _ _ (λ m h. same (member a m))
        where
          same : (b : Bool) → (b && true) ≡ b
          same true = refl
          same false = refl

  -- and so do the numbers of rows that they lose.
  pub lost_parts : (word : ℕ → ℕ) → lost_rows near word + lost_rows far word ≡ lost_rows s word
  lost_parts word = count_parts (λ m. eqb (word m) 0)

-- No more rows are lost than there are.
lost_le : (s : ℕ) (word : ℕ → ℕ) → lost_rows s word ≤ size s
lost_le s word = count_below_mono 64 _ _ (λ m h e. ((and-eq-true_iff (member s m) (eqb (word m) 0)).0 e).0)

-- Rows that are met whatever is needed are met for any need.
pub met_any : {s : ℕ} {word : ℕ → ℕ} {level need : ℕ} {ws ws' : List ℕ} {kept r : Kept} → Met s word level 0 ws kept ws' r
    → Met s word level need ws kept ws' r
met_any met = record {
  words = met.words;
  others = met.others;
  few = λ h. omega (arith, met.count_is (omega arith));
  count_is = λ h. met.count_is (omega arith);
  rows_are = λ h. met.rows_are (omega arith);
  filled = λ h. met.filled (omega arith);
}

-- Words that agree on the set are met alike.
pub met_words : {s : ℕ} {word word' : ℕ → ℕ} {level need : ℕ} {ws ws' : List ℕ} {kept r : Kept}
    → ((m : ℕ) → m < 64 → member s m ≡ true → word m ≡ word' m) → Met s word level need ws kept ws' r → Met s word' level need ws kept ws' r
met_words {s} {word} {word'} {level} {need} {ws} {ws'} {kept} {r} same met = record {
  words = met.words;
  others = met.others;
  few = λ h. omega (arith, met.few h, lost);
  count_is = λ h. omega (arith, met.count_is h, lost);
  rows_are = λ h m l. met.rows_are h m l ∙ ap (λ (b : Bool). member kept.rows m || b) (tested (λ w. not (eqb w 0)) m l (member s m) refl);
  filled = λ h m l own full. met.filled h m l own (rw (same m l own) full) ∙ same m l own;
}
  where
    tested : (t : ℕ → Bool) (m : ℕ) → m < 64 → (b : Bool) → member s m ≡ b → (b && t (word m)) ≡ (b && t (word' m))
    tested t m l true e = ap t (same m l e)
    tested t m l false e = refl

    lost : lost_rows s word ≡ lost_rows s word'
    lost = count_below_congr 64 _ _ (λ m l. tested (λ w. eqb w 0) m l (member s m) refl)

module _ {s near far : ℕ} (parts : Parts s near far) {word : ℕ → ℕ} {level need : ℕ} {ws ws' : List ℕ} {kept mid : Kept}
    (first : Met near word level need ws kept ws' mid) where
  -- Too few rows of a part are left: too few of the set are,
  pub met_first : mid.count < need → Met s word level need ws kept ws' mid
  met_first few = record {
    words = first.words;
    others = λ i far-off. first.others i (λ m h own. far-off m h (parts.within m h own));
    few = λ h. omega (arith, first.few h, lost_parts parts word);
    count_is = λ h. absurd (omega arith);
    rows_are = λ h. absurd (omega arith);
    filled = λ h. absurd (omega arith);
  }

  module _ (enough : need ≤ mid.count) where
    -- else the rest of the set is not more than what is left,
    pub rest_fits : size s ≡ kept.count → size far ≤ mid.count
    rest_fits all = omega (arith, first.count_is enough, size_parts parts, lost_le near word)

    -- and the set is met once the rest is.
    pub met_both : {ws'' : List ℕ} {r : Kept} → Met far word level need ws' mid ws'' r → Met s word level need ws kept ws'' r
    met_both {ws''} {r} second = record {
      words = second.words ∙ first.words;
      others = λ i far-off.
          second.others i (λ m h own. far-off m h (in_set m h own)) ∙ first.others i (λ m h own. far-off m h (parts.within m h own));
      few = λ h. omega (arith, second.few h, first.count_is enough, lost_parts parts word);
      count_is = λ h. omega (arith, second.count_is h, first.count_is enough, lost_parts parts word);
      rows_are = λ h m l.
          second.rows_are h m l
          ∙ rw (first.rows_are enough m l, parts.rest m l)
          (both (member kept.rows m) (member near m) (member s m) (not (eqb (word m) 0)) (parts.within m l));
      filled = λ h m l own full. filled_row h m l own full (member near m) refl;
    }
      where
        in_set : (m : ℕ) → m < 64 → member far m ≡ true → member s m ≡ true
        in_set m h own = ((and-eq-true_iff (member s m) (not (member near m))).0 (sym (parts.rest m h) ∙ own)).0

        both : (k n a f : Bool) → (n ≡ true → a ≡ true) → ((k || (n && f)) || ((a && not n) && f)) ≡ (k || (a && f))
        both true n a f h = refl
        both false true a true h = rw (h refl) refl
        both false true a false h = rw (h refl) refl
        both false false true f h = refl
        both false false false f h = refl

        filled_row : need ≤ r.count → (m : ℕ) → m < 64 → member s m ≡ true → eqb (word m) 0 ≡ false → (b : Bool) → member near m ≡ b
            → get_or ws'' (64 * level + m) 0 ≡ word m
        filled_row h m l own full true e =
            second.others (64 * level + m) (λ j b other q. apart j b other (omega arith)) ∙ first.filled enough m l e full
          where
            apart : (j : ℕ) → j < 64 → member far j ≡ true → m ≡ j → ⊥
            apart j b other q = true≢false (sym other ∙ rw (← q) (parts.rest m l ∙ rw (own, e) refl))
        filled_row h m l own full false e = second.filled h m l (parts.rest m l ∙ rw (own, e) refl) full
