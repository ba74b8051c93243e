-- A level refined from the one before: the rows of the parent's set after `row` are met, and their set is stored.
use mathlib.Core.Path.{◌≡◌, refl, sym, ap, ◌∙◌}
use mathlib.Core.Logic.{⊎_elim}
use mathlib.Core.Bool.{Bool, true, false, cond, not, ◌&&◌, and-eq-true_iff}
use mathlib.Core.List.{List}
use Prim.Native.Nat.{ℕ, ◌+◌, ◌*◌, ◌^◌, ◌≤◌, ◌<◌}
use native.Mathlib.Decide.{dec_lt}
use native.Mathlib.Omega.{arith}
use lib.Dec.{leb, ltb, eqb}
use lib.ListN.{length, get_or}
use borrow.Author.Tests.{lt-ltb, le-ltb, le-leb, lt-leb, leb-true}
use Rattle.bitset.specs.Members.{member, meet_of, members_from}
use Rattle.bitset.specs.Count.{size}
use Rattle.bitset.proofs.Membership.{member_zero}
use Rattle.bitset.proofs.SetOf.{member_set_of, meet_empty}
use Rattle.bitset.proofs.CountBelow.{count_below_congr, count_below_zero, count_below_parts}
use Rattle.bitset.proofs.MembersFrom.{member_from}
use Rattle.search.specs.Rows.{Covers}
use Rattle.search.specs.Words.{open_set, met_word, near_word, far_word, lost_rows, Refined, meet_rows, Met, Counted}
use Rattle.search.specs.declared.words.Kept.{Kept}
use Rattle.search.proofs.Levels.{word_open, word_closed, same_none, below_same}
use Rattle.search.proofs.LevelStores.{FilledTo, with_set, level_word_lem, level_member, level_below}
use Rattle.search.proofs.MetParts.{Parts}

module _ (edges masks : List ℕ) (row pairs value : ℕ) (ws : List ℕ) {s : ℕ} (opened : s ≡ members_from (open_set pairs ws) (row + 1)) where
  -- a row of the set is one of the parent's set after `row`
  open_is : (r : ℕ) → r < 64 → member s r ≡ (leb (row + 1) r && member (open_set pairs ws) r)
  open_is r h = rw opened (member_from (open_set pairs ws) (row + 1) r h)

  open_later : (r : ℕ) → r < 64 → row < r → member s r ≡ member (open_set pairs ws) r
  open_later r h later = open_is r h ∙ rw (le-leb (row + 1) r (omega arith)) refl

  -- the word of a row of the set, or none, is the word met
  met_is : (r : ℕ) → r < 64 → row < r → cond (member s r) (near_word edges masks row pairs value ws r) 0 ≡ met_word edges masks row pairs value ws r
  met_is r h later = rw (open_later r h later) (go (member (open_set pairs ws) r) refl)
    where
      go : (b : Bool) → member (open_set pairs ws) r ≡ b → cond b (near_word edges masks row pairs value ws r) 0 ≡ met_word edges masks row pairs value ws r
      go true e = rw (word_open ws pairs r e) refl
      go false e = rw (word_closed ws pairs r e) (sym (meet_empty _))

  -- the rows lost and those that have a candidate are all rows of the set
  rows_all : lost_rows s (near_word edges masks row pairs value ws) + meet_rows edges masks row pairs value ws ≡ size s
  rows_all =
      ap (λ (n : ℕ). lost_rows s (near_word edges masks row pairs value ws) + n) (sym (count_below_congr 64 _ _ (λ r h. same r h (dec_lt row r))))
      ∙ count_below_parts 64 (member s) (λ r. eqb (near_word edges masks row pairs value ws r) 0)
    where
      same : (r : ℕ) → r < 64 → Dec (row < r)
          → (member s r && not (eqb (near_word edges masks row pairs value ws r) 0)) ≡ (ltb row r && not (eqb (met_word edges masks row pairs value ws r) 0))
      same r h (yes later) =
          go (member s r)
          ∙ ap (λ (w : ℕ). not (eqb w 0)) (met_is r h later)
          ∙ sym (ap (λ (b : Bool). b && not (eqb (met_word edges masks row pairs value ws r) 0)) (lt-ltb row r later))
        where
          go : (b : Bool) → (b && not (eqb (near_word edges masks row pairs value ws r) 0)) ≡ not (eqb (cond b (near_word edges masks row pairs value ws r) 0) 0)
          go true = refl
          go false = refl
      same r h (no before) = rw (le-ltb row r (omega arith), open_is r h, lt-leb (row + 1) r (omega arith)) refl

  -- A row of the set that is not met first has the mask of null edges.
  pub far_word_lem : (ws' : List ℕ) (first : ℕ) {near far mask : ℕ} → Covers edges row first → near ≡ meet_of s first → Parts s near far
      → mask ≡ get_or masks (256 * value) 0 → (m : ℕ) → m < 64 → member far m ≡ true → get_or ws' (64 * pairs + m) 0 ≡ get_or ws (64 * pairs + m) 0
      → far_word mask pairs ws' m ≡ near_word edges masks row pairs value ws m
  far_word_lem ws' first {near} {far} {mask} covers near-is parts mask_is m h own same =
      let both = (and-eq-true_iff (member s m) (not (member near m))).0 (sym (parts.rest m h) ∙ own) in
      let later = ((and-eq-true_iff (leb (row + 1) m) (member (open_set pairs ws) m)).0 (sym (open_is m h) ∙ both.0)).0 in
      let null = covers m (omega (arith, leb-true (row + 1) m later)) h (not_first both.0 both.1) in
      rw (same, mask_is) (ap (λ (i : ℕ). meet_of (get_or ws (64 * pairs + m) 0) (get_or masks i 0)) (omega arith))
    where
      not_first : member s m ≡ true → not (member near m) ≡ true → member first m ≡ false
      not_first in_set none = go (member first m) refl
        where
          go : (b : Bool) → member first m ≡ b → b ≡ false
          go true e = sym (rw (near-is, member_set_of 64 (λ i. member s i && member first i) m h, in_set, e) at none)
          go false e = refl

  module _ {need : ℕ} {ws' : List ℕ} {all r : Kept} (empty : all.rows ≡ 0) (whole : all.count ≡ size s) (inner : pairs + 1 < 64) (room : 4160 ≤ length ws)
      (met : Met s (near_word edges masks row pairs value ws) (pairs + 1) need ws all ws' r) where
    -- Where too few rows are left, the levels before are unchanged;
    pub counted_few : r.count < need → Counted edges masks row pairs value need ws ws' r.count
    counted_few few = record {
      kept =
          below_same inner met.words (λ i h. met.others i (λ m l own e. omega arith)) (λ i a h. met.others i (λ m l own e. omega arith))
          pairs (omega arith);
      few = λ h. omega (arith, met.few h, rows_all);
      whole = λ h. absurd (omega arith);
    }

    -- where enough are, the level is refined once its set is stored.
    pub counted_all : need ≤ r.count → r.rows < 2 ^ 64 → Counted edges masks row pairs value need ws (with_set ws' (pairs + 1) r.rows) r.count
    counted_all enough small = record {
      kept = level_below level inner room pairs (omega arith);
      few = λ h. absurd (omega arith);
      whole = λ h. (omega (arith, met.count_is enough, rows_all), refined);
    }
      where
        level : FilledTo (member s) (near_word edges masks row pairs value ws) (64 * (pairs + 1)) ws ws' r.rows
        level = record {
          kept_length = met.words;
          filled = met.filled enough;
          small = small;
          gathered = λ m h. met.rows_are enough m h ∙ rw (empty, member_zero m) refl;
          kept = λ i h. met.others i (λ m l own e. ⊎_elim (λ b. omega arith) (λ b. omega arith) h);
        }

        refined : Refined edges masks row pairs value ws (with_set ws' (pairs + 1) r.rows)
        refined = record {
          kept = level_below level inner room pairs (omega arith);
          met = λ m later h. level_word_lem level inner room m h ∙ met_is m h later;
          exact = λ n few exact. record {
            inside = λ m e.
                let own = level_member level inner room m e in
                exact.inside m ((and-eq-true_iff (leb (row + 1) m) (member (open_set pairs ws) m)).0 (sym (open_is m own.0) ∙ own.1)).1;
            filled = λ m e. (level_member level inner room m e).2;
          };
        }

-- After 64 pairs no row is left to refine.
pub counted_last : {edges masks : List ℕ} {row pairs value need : ℕ} {ws : List ℕ} → row < 64 → pairs ≤ row → pairs ≡ 63
    → Counted edges masks row pairs value need ws ws 0
counted_last {edges} {masks} {row} {pairs} {value} {need} {ws} inside within last = record {
  kept = same_none pairs ws;
  few = λ h. omega (arith, none);
  whole = λ h. (sym none, record { kept = same_none pairs ws; met = λ r later l. absurd (omega arith); exact = λ n few. absurd (omega arith) });
}
  where
    none : meet_rows edges masks row pairs value ws ≡ 0
    none = (count_below_zero 64 _).1 (λ r h. rw (le-ltb row r (omega arith)) refl)
