-- The loop that gives the rows of a set their new words, the least row first: a word that is not empty is stored and its row gathered, an
-- empty one is counted off.
use mathlib.Core.Path.{◌≡◌, refl, sym, ap, ◌∙◌}
use mathlib.Core.Logic.{◌≢◌}
use mathlib.Core.Bool.{Bool, true, false, not, true≢false, ◌&&◌, ◌||◌, and-false, and-true, and-eq-true_iff, or-false}
use mathlib.Core.List.{List}
use Prim.Native.Nat.{ℕ, ◌+◌, ◌-◌, ◌*◌, ◌^◌, ◌≤◌, ◌<◌}
use native.Mathlib.Decide.{ℕ_discrete}
use native.Mathlib.Omega.{arith}
use lib.Dec.{eqb}
use lib.ListN.{length, get_or, set, length-set}
use lib.Seq.{get_or-set_same, get_or-set_other}
use borrow.Author.Tests.{eq-eqb, ne_eqb}
use Rattle.bitset.specs.Members.{member, insert}
use Rattle.bitset.specs.Count.{count_below, size}
use Rattle.bitset.specs.Least.{least_member, least_above, without_least}
use Rattle.std.specs.Prelude.{Some, None}
use Rattle.bitset.proofs.SetOf.{member_set_of}
use Rattle.bitset.proofs.CountBelow.{count_below_congr, count_below_zero, count_below_one, count_below_mono}
use Rattle.bitset.proofs.LeastBelow.{least_below_member, least_above_member, least_below_empty}
use Rattle.bitset.proofs.WithoutLeast.{member_without_least, without_least_smaller, size_without_least}
use Rattle.search.specs.Words.{lost_rows, Met}
use Rattle.search.specs.declared.words.Kept.{Kept}

-- the rows done: those of a set that are not left
abbrev pub rows_done : ℕ → ℕ → ℕ → Bool
rows_done s rest r = member s r && not (member rest r)

-- The invariant: the rows done have their words in the level, those that are not empty are gathered, and the others are counted off.
pub record MetTo (s : ℕ) (word : ℕ → ℕ) (level : ℕ) (ws : List ℕ) (rows₀ left₀ : ℕ) (ws' : List ℕ) (rest rows left : ℕ) : Type 0 where
  pub small : rest < 2 ^ 64
  pub within : (m : ℕ) → m < 64 → member rest m ≡ true → member s m ≡ true
  pub words : length ws' ≡ length ws
  pub others : (i : ℕ) → ((m : ℕ) → m < 64 → member s m ≡ true → i ≢ 64 * level + m) → get_or ws' i 0 ≡ get_or ws i 0
  pub filled : (m : ℕ) → m < 64 → rows_done s rest m ≡ true → eqb (word m) 0 ≡ false → get_or ws' (64 * level + m) 0 ≡ word m
  pub gathered : (m : ℕ) → m < 64 → member rows m ≡ (member rows₀ m || (rows_done s rest m && not (eqb (word m) 0)))
  pub counted : left + count_below 64 (λ m. rows_done s rest m && eqb (word m) 0) ≡ left₀
  pub enough : size rest ≤ left

-- A row that was found is below 64.
pub row_inside : (rest r : ℕ) → least_member rest ≡ Some r → r < 64
row_inside rest r found = (least_below_member 64 (member rest) found).below

pub row_above_inside : (s i r : ℕ) → least_above s i ≡ Some r → r < 64
row_above_inside s i r found = (least_above_member s i found).below

-- Without it a set is smaller,
pub rest_falls : (rest r : ℕ) → rest < 2 ^ 64 → least_member rest ≡ Some r → without_least rest < rest
rest_falls rest r small found = without_least_smaller rest r small found

-- and not empty with it.
pub some_left : (rest r : ℕ) → least_member rest ≡ Some r → 1 ≤ size rest
some_left rest r found = omega (arith, size_without_least rest r found)

module _ {s : ℕ} {word : ℕ → ℕ} {level : ℕ} {ws : List ℕ} {rows₀ left₀ : ℕ} where
  -- At first all rows of the set are left.
  pub met_none : s < 2 ^ 64 → size s ≤ left₀ → MetTo s word level ws rows₀ left₀ ws s rows₀ left₀
  met_none small enough = record {
    small = small;
    within = λ m h e. e;
    words = refl;
    others = λ i h. refl;
    filled = λ m h e full. absurd (true≢false (sym e ∙ none m));
    gathered = λ m h. rw (none m) (sym (or-false (member rows₀ m)));
    counted = omega (arith, (count_below_zero 64 (λ m. rows_done s s m && eqb (word m) 0)).1 (λ m h. rw (none m) refl));
    enough = enough;
  }
    where
      none : (m : ℕ) → rows_done s s m ≡ false
      none m = go (member s m)
        where
          go : (b : Bool) → (b && not b) ≡ false
          go true = refl
          go false = refl

  module _ {ws' : List ℕ} {rest rows left m : ℕ} (t : MetTo s word level ws rows₀ left₀ ws' rest rows left) (found : least_member rest ≡ Some m) where
    -- The least row left is one of the set.
    pub next_row : (m < 64) × (member s m ≡ true)
    next_row =
        let least = least_below_member 64 (member rest) found in
        (least.below, t.within m least.below least.passes)

    -- Each turn leaves less.
    pub left_falls : without_least rest < rest
    left_falls = without_least_smaller rest m t.small found

    -- A row that is left is not yet counted off.
    pub not_none : 1 ≤ left
    not_none = omega (arith, t.enough, size_without_least rest m found)

    new : rows_done s rest m ≡ false
    new = rw (least_below_member 64 (member rest) found).passes (and-false (member s m))

    is : rows_done s (without_least rest) m ≡ true
    is = rw (next_row.1, member_without_least rest m m found next_row.0, eq-eqb m m refl) refl

    same : (r : ℕ) → r < 64 → r ≢ m → rows_done s (without_least rest) r ≡ rows_done s rest r
    same r h n = rw (member_without_least rest m r found h, ne_eqb r m n) refl

    fewer : (r : ℕ) → r < 64 → member (without_least rest) r ≡ true → member s r ≡ true
    fewer r h e =
        t.within r h ((and-eq-true_iff (not (eqb r m)) (member rest r)).0 (sym (member_without_least rest m r found h) ∙ e)).1

    -- Whatever is stored for a row that is left, all else stays.
    pub met_stored : {at : ℕ} (v : ℕ) → at ≡ 64 * level + m → MetTo s word level ws rows₀ left₀ (set ws' at v) rest rows left
    met_stored {at} v place = record {
      small = t.small;
      within = t.within;
      words = length-set ws' at v ∙ t.words;
      others = λ i far. get_or-set_other ws' at i v 0 (λ e. far m next_row.0 next_row.1 (e ∙ place)) ∙ t.others i far;
      filled = λ r h e kept. get_or-set_other ws' at (64 * level + r) v 0 (λ q. other r e (omega arith)) ∙ t.filled r h e kept;
      gathered = t.gathered;
      counted = t.counted;
      enough = t.enough;
    }
      where
        other : (r : ℕ) → rows_done s rest r ≡ true → r ≢ m
        other r e q = true≢false (sym e ∙ rw q new)

    -- A word that is not empty is stored, and its row gathered;
    pub met_more : {at v : ℕ} → at ≡ 64 * level + m → at < length ws → v ≡ word m → eqb v 0 ≡ false
        → MetTo s word level ws rows₀ left₀ (set ws' at v) (without_least rest) (insert rows m) left
    met_more {at} {v} place room value full = record {
      small = omega (arith, t.small, left_falls);
      within = fewer;
      words = length-set ws' at v ∙ t.words;
      others = λ i far. get_or-set_other ws' at i v 0 (λ e. far m next_row.0 next_row.1 (e ∙ place)) ∙ t.others i far;
      filled = λ r h e kept. filled_row r h e kept (ℕ_discrete r m);
      gathered = λ r h. member_set_of 64 (λ j. eqb j m || member rows j) r h ∙ gathered_row r h (ℕ_discrete r m);
      counted = ap (λ (n : ℕ). left + n) (count_below_congr 64 _ _ (λ r h. counted_row r h (ℕ_discrete r m))) ∙ t.counted;
      enough = omega (arith, t.enough, size_without_least rest m found);
    }
      where
        own : eqb (word m) 0 ≡ false
        own = rw (← value) full

        filled_row : (r : ℕ) → r < 64 → rows_done s (without_least rest) r ≡ true → eqb (word r) 0 ≡ false → Dec (r ≡ m)
            → get_or (set ws' at v) (64 * level + r) 0 ≡ word r
        filled_row r h e kept (yes q) = rw (q, ← place) (get_or-set_same ws' at v 0 (omega (arith, t.words)) ∙ value)
        filled_row r h e kept (no n) =
            get_or-set_other ws' at (64 * level + r) v 0 (λ q. n (omega arith)) ∙ t.filled r h (sym (same r h n) ∙ e) kept

        gathered_row : (r : ℕ) → r < 64 → Dec (r ≡ m)
            → (eqb r m || member rows r) ≡ (member rows₀ r || (rows_done s (without_least rest) r && not (eqb (word r) 0)))
        gathered_row r h (yes q) = rw (q, eq-eqb m m refl, is, own) (sym (or_true (member rows₀ m)))
          where
            or_true : (b : Bool) → (b || true) ≡ true
            or_true true = refl
            or_true false = refl
        gathered_row r h (no n) = rw (ne_eqb r m n, same r h n) (t.gathered r h)

        counted_row : (r : ℕ) → r < 64 → Dec (r ≡ m) → (rows_done s (without_least rest) r && eqb (word r) 0) ≡ (rows_done s rest r && eqb (word r) 0)
        counted_row r h (yes q) = rw (q, own, and-false (rows_done s (without_least rest) m)) (sym (and-false (rows_done s rest m)))
        counted_row r h (no n) = rw (same r h n) refl

    -- an empty one is counted off.
    pub met_lost : {v : ℕ} → v ≡ word m → eqb v 0 ≡ true → MetTo s word level ws rows₀ left₀ ws' (without_least rest) rows (left - 1)
    met_lost {v} value empty = record {
      small = omega (arith, t.small, left_falls);
      within = fewer;
      words = t.words;
      others = t.others;
      filled = λ r h e kept. filled_row r h e kept (ℕ_discrete r m);
      gathered = λ r h. t.gathered r h ∙ gathered_row r h (ℕ_discrete r m);
      counted =
          omega (
            arith,
            t.counted,
            not_none,
            count_below_one 64 m (λ r. rows_done s rest r && eqb (word r) 0) (λ r. rows_done s (without_least rest) r && eqb (word r) 0) next_row.0
                (rw new refl) (rw (is, own) refl) (λ r h n. rw (same r h n) refl),
          );
      enough = omega (arith, t.enough, size_without_least rest m found);
    }
      where
        own : eqb (word m) 0 ≡ true
        own = rw (← value) empty

        filled_row : (r : ℕ) → r < 64 → rows_done s (without_least rest) r ≡ true → eqb (word r) 0 ≡ false → Dec (r ≡ m)
            → get_or ws' (64 * level + r) 0 ≡ word r
        filled_row r h e kept (yes q) = absurd (true≢false (sym own ∙ rw q at kept))
        filled_row r h e kept (no n) = t.filled r h (sym (same r h n) ∙ e) kept

        gathered_row : (r : ℕ) → r < 64 → Dec (r ≡ m)
            → (member rows₀ r || (rows_done s rest r && not (eqb (word r) 0)))
            ≡ (member rows₀ r || (rows_done s (without_least rest) r && not (eqb (word r) 0)))
        gathered_row r h (yes q) = rw (q, new, is, own) refl
        gathered_row r h (no n) = rw (same r h n) refl

module _ {s : ℕ} {word : ℕ → ℕ} {level need : ℕ} {ws ws' : List ℕ} {rest : ℕ} {kept r : Kept}
    (t : MetTo s word level ws kept.rows kept.count ws' rest r.rows r.count) where
  -- The loop is left where too few rows can be left,
  pub met_few : r.count < need → Met s word level need ws kept ws' r
  met_few few = record {
    words = t.words;
    others = t.others;
    few = λ h. omega (arith, t.counted, some);
    count_is = λ h. absurd (omega arith);
    rows_are = λ h. absurd (omega arith);
    filled = λ h. absurd (omega arith);
  }
    where
      some : count_below 64 (λ m. rows_done s rest m && eqb (word m) 0) ≤ lost_rows s word
      some = count_below_mono 64 _ _ (λ m h e. weaker (member s m) (not (member rest m)) (eqb (word m) 0) e)
        where
          weaker : (a b d : Bool) → ((a && b) && d) ≡ true → (a && d) ≡ true
          weaker true true d e = e
          weaker true false d e = absurd (true≢false (sym e))
          weaker false b d e = e

  -- and where none is left.
  pub met_all : least_member rest ≡ None → Met s word level need ws kept ws' r
  met_all none = record {
    words = t.words;
    others = t.others;
    few = λ h. omega (arith, all_counted);
    count_is = λ h. all_counted;
    rows_are = λ h m l. t.gathered m l ∙ rw (done m l) refl;
    filled = λ h m l e. t.filled m l (done m l ∙ e);
  }
    where
      done : (m : ℕ) → m < 64 → rows_done s rest m ≡ member s m
      done m l = rw (least_below_empty 64 (member rest) none m l) (and-true (member s m))

      all_counted : r.count + lost_rows s word ≡ kept.count
      all_counted = ap (λ (n : ℕ). r.count + n) (count_below_congr 64 _ _ (λ m l. rw (done m l) refl)) ∙ t.counted
