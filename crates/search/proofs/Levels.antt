-- The levels of the workspace: a row's word through its level's set, the rows counted, and what depends on some levels alone.
use mathlib.Core.Path.{◌≡◌, refl, sym, ap, ◌∙◌}
use mathlib.Core.Logic.{⊎_elim}
use mathlib.Core.Bool.{Bool, true, false, cond, not, ◌&&◌}
use mathlib.Core.List.{List}
use Prim.Native.Nat.{ℕ, zero, suc, ◌+◌, ◌*◌, ◌≤◌, ◌<◌}
use native.Mathlib.Nat.{add-zero, eq-or-lt_of_le}
use native.Mathlib.Omega.{arith}
use lib.Dec.{ltb, eqb}
use lib.ListN.{length, get_or}
use borrow.Author.Tests.{ne_eqb}
use Rattle.bitset.specs.Members.{member, meet_of}
use Rattle.bitset.specs.Count.{count_below}
use Rattle.bitset.proofs.CountBelow.{count_below_congr}
use Rattle.bounded.specs.Below.{sum_below}
use Rattle.graph.specs.Graph.{place}
use Rattle.search.specs.Words.{open_set, level_word, ExactSet, SameLevels, open_rows, meet_rows}

module _ (ws : List ℕ) (pairs r : ℕ) where
  -- A row in the level's set has the word at its place,
  pub word_open : member (open_set pairs ws) r ≡ true → level_word ws pairs r ≡ get_or ws (64 * pairs + r) 0
  unfolding level_word
  word_open e = rw e refl

  -- and another has the empty set.
  pub word_closed : member (open_set pairs ws) r ≡ false → level_word ws pairs r ≡ 0
  unfolding level_word
  word_closed e = rw e refl

-- A row is in the set of an exact level exactly where its word is not empty.
pub exact_member : {n pairs : ℕ} {ws : List ℕ} → ExactSet n pairs ws → (r : ℕ) → member (open_set pairs ws) r ≡ not (eqb (level_word ws pairs r) 0)
exact_member {n} {pairs} {ws} exact r = go (member (open_set pairs ws) r) refl
  where
    go : (b : Bool) → member (open_set pairs ws) r ≡ b → b ≡ not (eqb (level_word ws pairs r) 0)
    go true e = rw (ne_eqb (level_word ws pairs r) 0 (exact.filled r e)) refl
    go false e = rw (word_closed ws pairs r e) refl

-- Rows from n on have no word in an exact level.
pub exact_above : {n pairs : ℕ} {ws : List ℕ} → ExactSet n pairs ws → (r : ℕ) → n ≤ r → level_word ws pairs r ≡ 0
exact_above {n} {pairs} {ws} exact r h = go (member (open_set pairs ws) r) refl
  where
    go : (b : Bool) → member (open_set pairs ws) r ≡ b → level_word ws pairs r ≡ 0
    go true e = absurd (omega (arith, exact.inside r e))
    go false e = word_closed ws pairs r e

-- A count is a sum.
count_sum : (k : ℕ) (t : ℕ → Bool) → count_below k t ≡ sum_below k (λ r. cond (t r) 1 0)
unfolding count_below sum_below
count_sum zero t = refl
count_sum (suc k) t = ap (λ (c : ℕ). c + cond (t k) 1 0) (count_sum k t)

-- Where no row from n on passes, the rows below k that pass are those below n.
pub count_rows : (n k : ℕ) (t : ℕ → Bool) → n ≤ k → ((r : ℕ) → n ≤ r → t r ≡ false) → count_below k t ≡ sum_below n (λ r. cond (t r) 1 0)
unfolding count_below
count_rows n zero t h fails =
    let none : n ≡ 0 = omega arith in
    rw none (count_sum 0 t)
count_rows n (suc k) t h fails =
    ⊎_elim
    (λ (e : n ≡ suc k). rw e (count_sum (suc k) t))
    (λ l. rw (fails k (omega arith), add-zero) (count_rows n k t (omega arith) fails))
    (eq-or-lt_of_le h)

-- Where the words and the sets of the levels below one are unchanged, these levels are.
pub below_same : {pairs : ℕ} {ws ws' : List ℕ} → pairs < 64 → length ws' ≡ length ws
    → ((i : ℕ) → i < 64 * pairs → get_or ws' i 0 ≡ get_or ws i 0) → ((i : ℕ) → 4096 ≤ i → i < 4096 + pairs → get_or ws' i 0 ≡ get_or ws i 0)
    → (p : ℕ) → p < pairs → SameLevels p ws ws'
unfolding level_word
below_same level words places sets p h = record {
  words = words;
  sets = λ q l. sets (4096 + q) (omega arith) (omega arith);
  word = λ q r l b. rw (sets (4096 + q) (omega arith) (omega arith), places (64 * q + r) (omega arith)) refl;
}

-- Nothing changes where nothing is stored,
pub same_none : (pairs : ℕ) (ws : List ℕ) → SameLevels pairs ws ws
same_none pairs ws = record { words = refl; sets = λ p h. refl; word = λ p r h l. refl }

module _ {pairs : ℕ} {ws ws' : List ℕ} (same : SameLevels pairs ws ws') where
  -- and one change after the other leaves the lower levels as they were.
  pub same_more : {ws'' : List ℕ} (p : ℕ) → p ≤ pairs → SameLevels p ws' ws'' → SameLevels p ws ws''
  same_more p h next = record {
    words = next.words ∙ same.words;
    sets = λ q l. next.sets q l ∙ same.sets q (omega arith);
    word = λ q r l b. next.word q r l b ∙ same.word q r (omega arith) b;
  }

  -- The rows counted at a level depend on it alone,
  pub open_rows_same : (depth p : ℕ) → p ≤ pairs → open_rows depth p ws' ≡ open_rows depth p ws
  open_rows_same depth p h = rw (same.sets p h) refl

  -- and so do those foretold from it.
  pub meet_rows_same : (edges masks : List ℕ) (row p value : ℕ) → p ≤ pairs
      → meet_rows edges masks row p value ws' ≡ meet_rows edges masks row p value ws
  meet_rows_same edges masks row p value h =
      count_below_congr 64 _ _
      (λ r l. ap (λ (s : ℕ). ltb row r && not (eqb (meet_of s (get_or masks (256 * value + get_or edges (place row r) 0) 0)) 0)) (same.word p r h l))

  -- An exact level stays exact.
  pub exact_same : {n p : ℕ} → p ≤ pairs → n ≤ 64 → ExactSet n p ws → ExactSet n p ws'
  exact_same {n} {p} h few exact = record {
    inside = λ r e. exact.inside r (before r e);
    filled = λ r e z. exact.filled r (before r e) (sym (same.word p r h (omega (arith, exact.inside r (before r e)))) ∙ z);
  }
    where
      before : (r : ℕ) → member (open_set p ws') r ≡ true → member (open_set p ws) r ≡ true
      before r e = rw (same.sets p h) at e
