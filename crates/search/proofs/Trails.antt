-- The trail of a path: its pairs, each at the number of pairs before it. What keeps it, and what adds a pair to it.
use mathlib.Core.Path.{◌≡◌, refl, sym, ap, ◌∙◌}
use mathlib.Core.Logic.{◌≢◌, ⊎_elim}
use mathlib.Core.Bool.{Bool, true, false, ◌&&◌, and-false}
use mathlib.Core.List.{List}
use Prim.Native.Nat.{ℕ, ◌+◌, ◌≤◌, ◌<◌}
use native.Mathlib.Nat.{eq-or-lt_of_le}
use native.Mathlib.Decide.{ℕ_discrete, dec_lt}
use native.Mathlib.Omega.{arith}
use lib.Dec.{leb}
use lib.ListN.{length, get_or, take, set, length-set}
use lib.Seq.{get_or-take, take-take, get_or-set_same, get_or-set_other}
use borrow.Author.Tests.{le-leb, lt-leb}
use Rattle.bitset.specs.Members.{member}
use Rattle.bitset.proofs.CountBelow.{count_below_congr, count_below_one}
use Rattle.mapping.specs.Common.{unmapped, size}
use Rattle.search.specs.Words.{open_set, open_rows, level_word, ExactSet}
use Rattle.search.specs.declared.tables.Pair.{Pair}
use Rattle.search.specs.Walking.{Says, OnTrail}
use Rattle.search.proofs.Levels.{word_closed, exact_member}
use Rattle.search.proofs.NodeWords.{size_take_max, size_mapped}
use Rattle.search.proofs.WordLevels.{size_take_le}

-- how many rows are open follows from the level's set
pub open_rows_set : (depth p : ℕ) (ws ws' : List ℕ) → open_set p ws' ≡ open_set p ws → open_rows depth p ws ≡ open_rows depth p ws'
open_rows_set depth p ws ws' same = rw same refl

module _ (ws : List ℕ) (pairs row : ℕ) where
  -- A row that has a candidate is one of the open rows,
  pub open_taken : row < 64 → level_word ws pairs row ≢ 0 → open_rows row pairs ws ≡ open_rows (row + 1) pairs ws + 1
  open_taken inside full = go (member (open_set pairs ws) row) refl
    where
      others : (i : ℕ) → i ≢ row → leb (row + 1) i ≡ leb row i
      others i n = split (dec_lt row i)
        where
          split : Dec (row < i) → leb (row + 1) i ≡ leb row i
          split (yes h) = rw (le-leb (row + 1) i (omega arith), le-leb row i (omega arith)) refl
          split (no m) = rw (lt-leb (row + 1) i (omega arith), lt-leb row i (omega arith)) refl

      go : (b : Bool) → member (open_set pairs ws) row ≡ b → open_rows row pairs ws ≡ open_rows (row + 1) pairs ws + 1
      go true e =
          count_below_one 64 row (λ r. leb (row + 1) r && member (open_set pairs ws) r) (λ r. leb row r && member (open_set pairs ws) r) inside
          (rw (lt-leb (row + 1) row (omega arith)) refl) (rw (le-leb row row (omega arith), e) refl) (λ i h n. ap (λ (b : Bool). b && member (open_set pairs ws) i) (others i n))
      go false e = absurd (full (word_closed ws pairs row e))

  -- and one that has none is not, where the set is exact.
  pub open_passed : {n : ℕ} → ExactSet n pairs ws → level_word ws pairs row ≡ 0 → open_rows row pairs ws ≡ open_rows (row + 1) pairs ws
  open_passed exact none = count_below_congr 64 _ _ (λ r h. go r (ℕ_discrete r row))
    where
      shut : member (open_set pairs ws) row ≡ false
      shut = exact_member exact row ∙ rw none refl

      go : (r : ℕ) → Dec (r ≡ row) → (leb row r && member (open_set pairs ws) r) ≡ (leb (row + 1) r && member (open_set pairs ws) r)
      go r (yes e) = rw (e, shut, and-false (leb row row)) (sym (and-false (leb (row + 1) row)))
      go r (no n) = split (dec_lt row r)
        where
          split : Dec (row < r) → (leb row r && member (open_set pairs ws) r) ≡ (leb (row + 1) r && member (open_set pairs ws) r)
          split (yes h) = rw (le-leb (row + 1) r (omega arith), le-leb row r (omega arith)) refl
          split (no m) = rw (lt-leb (row + 1) r (omega arith), lt-leb row r (omega arith)) refl

-- No row, no pair.
pub trail_none : (path : List ℕ) (trail : List Pair) (ws : List ℕ) → length trail ≡ 64 → OnTrail path 0 trail ws
trail_none path trail ws long = record { places = long; value = λ k h. absurd (omega arith); pair = λ k h. absurd (omega arith) }

-- The first entries have a trail too,
pub trail_shorter : {path ws : List ℕ} {trail : List Pair} {d e : ℕ} → e ≤ d → OnTrail path d trail ws → OnTrail path e trail ws
trail_shorter h t = record { places = t.places; value = λ k l. t.value k (omega arith); pair = λ k l. t.pair k (omega arith) }

-- and only they matter.
pub trail_same : {trail : List Pair} {ws : List ℕ} (p q : List ℕ) (d : ℕ) → take d p ≡ take d q → OnTrail p d trail ws → OnTrail q d trail ws
trail_same {trail} {ws} p q d same t = record {
  places = t.places;
  value = λ k l mapped. rw (entry k l) at (t.value k l (λ e. mapped (sym (entry k l) ∙ e)));
  pair = λ k l mapped. rw (entry k l, prefix k l) at (t.pair k l (λ e. mapped (sym (entry k l) ∙ e)));
}
  where
    entry : (k : ℕ) → k < d → get_or p k 0 ≡ get_or q k 0
    entry k l = sym (get_or-take d p k 0 l) ∙ ap (λ (s : List ℕ). get_or s k 0) same ∙ get_or-take d q k 0 l

    prefix : (k : ℕ) → k < d → take k p ≡ take k q
    prefix k l = sym (take-take k d p (omega arith)) ∙ ap (take k) same ∙ take-take k d q (omega arith)

-- A pair has fewer pairs before it than there are at the end.
pub pairs_fall : (path : List ℕ) (d k : ℕ) → k < d → d ≤ length path → get_or path k 0 ≢ unmapped → size (take k path) < size (take d path)
pairs_fall path d k h inside mapped =
    omega (arith, size_take_le path (k + 1) d (omega arith), size_mapped path k (omega arith) mapped)

-- The sets of the levels before the last pair are all that matters of the workspace.
pub trail_kept : {path ws ws' : List ℕ} {trail : List Pair} {d : ℕ} → d ≤ length path → ((p : ℕ) → p < size (take d path) → open_set p ws' ≡ open_set p ws)
    → OnTrail path d trail ws → OnTrail path d trail ws'
trail_kept {path} {ws} {ws'} {trail} {d} inside same t = record {
  places = t.places;
  value = t.value;
  pair = λ k l mapped d.
      let p = t.pair k l mapped d in record {
        row_is = p.row_is;
        value_is = p.value_is;
        later_is = p.later_is ∙ open_rows_set (k + 1) (size (take k path)) ws ws' (same (size (take k path)) (pairs_fall path _ k l inside mapped));
      };
}

-- A row that is left out is no pair.
pub trail_left_out : {path ws : List ℕ} {trail : List Pair} {row : ℕ} → get_or path row 0 ≡ unmapped → OnTrail path row trail ws → OnTrail path (row + 1) trail ws
trail_left_out {path} {ws} {trail} {row} out t = record {
  places = t.places;
  value = λ k l mapped. ⊎_elim (λ (e : k ≡ row). absurd (mapped (rw e out))) (λ b. t.value k b mapped) (eq-or-lt_of_le (omega arith));
  pair = λ k l mapped. ⊎_elim (λ (e : k ≡ row). absurd (mapped (rw e out))) (λ b. t.pair k b mapped) (eq-or-lt_of_le (omega arith));
}

-- A row that took a value is one pair more.
pub trail_taken : {path ws : List ℕ} {trail : List Pair} {row pairs : ℕ} {p : Pair} → length path ≡ 64 → row < 64 → pairs ≡ size (take row path)
    → get_or path row 0 < 64 → Says p (open_rows (row + 1) pairs ws) row (get_or path row 0)
    → OnTrail path row trail ws → OnTrail path (row + 1) (set trail pairs p) ws
trail_taken {path} {ws} {trail} {row} {pairs} {p} long inside count small own t = record {
  places = length-set trail pairs p ∙ t.places;
  value = λ k l mapped. ⊎_elim (λ (e : k ≡ row). rw e small) (λ b. t.value k b mapped) (eq-or-lt_of_le (omega arith));
  pair = λ k l mapped d. ⊎_elim (last k d) (λ b. earlier k b mapped d) (eq-or-lt_of_le (omega arith));
}
  where
    last : (k : ℕ) (d : Pair) → k ≡ row
        → Says (get_or (set trail pairs p) (size (take k path)) d) (open_rows (k + 1) (size (take k path)) ws) k (get_or path k 0)
    last k d e =
        rw (e, ← count, get_or-set_same trail pairs p d (omega (arith, size_take_max path row, t.places))) own

    earlier : (k : ℕ) → k < row → get_or path k 0 ≢ unmapped → (d : Pair)
        → Says (get_or (set trail pairs p) (size (take k path)) d) (open_rows (k + 1) (size (take k path)) ws) k (get_or path k 0)
    earlier k b mapped d =
        rw (get_or-set_other trail pairs (size (take k path)) p d (λ e. omega (arith, pairs_fall path row k b (omega arith) mapped))) (t.pair k b mapped d)
