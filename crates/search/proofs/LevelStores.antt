-- A loop that fills a level, one row's word a turn, and gathers the set of the rows whose word is not empty.
use mathlib.Core.Path.{◌≡◌, refl, sym, ap, ◌∙◌}
use mathlib.Core.Logic.{◌⊎◌, ◌≢◌, ⊎_elim, inl, inr}
use mathlib.Core.Bool.{Bool, true, false, cond, not, true≢false, ◌&&◌, ◌||◌, and-eq-true_iff}
use mathlib.Core.List.{List}
use Prim.Native.Nat.{ℕ, ◌+◌, ◌*◌, ◌^◌, ◌≤◌, ◌<◌}
use native.Mathlib.Decide.{ℕ_discrete}
use native.Mathlib.Omega.{arith}
use lib.Dec.{eqb}
use lib.ListN.{length, get_or, set, length-set}
use lib.Seq.{get_or-set_same, get_or-set_other}
use borrow.Author.Tests.{eq-eqb, ne_eqb, eqb-true}
use Rattle.bitset.specs.Members.{member, insert}
use Rattle.bitset.proofs.Membership.{member_zero, member_below}
use Rattle.bitset.proofs.SetOf.{set_of_lt, member_set_of}
use Rattle.search.specs.Words.{open_set, level_word, SameLevels}
use Rattle.search.proofs.Levels.{word_open, word_closed, below_same}

-- The invariant: of the rows that are done, those whose word by f is not empty have it, from `base` on, and are in the set, and nothing
-- outside the level changed.
pub record FilledTo (done : ℕ → Bool) (f : ℕ → ℕ) (base : ℕ) (words words' : List ℕ) (rows : ℕ) : Type 0 where
  pub kept_length : length words' ≡ length words
  pub filled : (r : ℕ) → r < 64 → done r ≡ true → eqb (f r) 0 ≡ false → get_or words' (base + r) 0 ≡ f r
  pub small : rows < 2 ^ 64
  pub gathered : (r : ℕ) → r < 64 → member rows r ≡ (done r && not (eqb (f r) 0))
  pub kept : (i : ℕ) → (i < base) ⊎ (base + 64 ≤ i) → get_or words' i 0 ≡ get_or words i 0

-- the words once the level's set is stored
abbrev pub with_set : List ℕ → ℕ → ℕ → List ℕ
with_set words pairs rows = set words (4096 + pairs) rows

-- At first nothing is stored.
pub filled_none : (done : ℕ → Bool) (f : ℕ → ℕ) (base : ℕ) (words : List ℕ) → ((r : ℕ) → r < 64 → done r ≡ false) → FilledTo done f base words words 0
filled_none done f base words none = record {
  kept_length = refl;
  filled = λ r h e full. absurd (true≢false (sym e ∙ none r h));
  small = omega arith;
  gathered = λ r h. member_zero r ∙ rw (none r h) refl;
  kept = λ i h. refl;
}

module _ {done : ℕ → Bool} {f : ℕ → ℕ} {base : ℕ} {words words' : List ℕ} {rows : ℕ} (s : FilledTo done f base words words' rows)
    (done' : ℕ → Bool) (m : ℕ) (row : m < 64) (new : done m ≡ false) (is : done' m ≡ true) (others : (r : ℕ) → r < 64 → r ≢ m → done' r ≡ done r)
    (at v : ℕ) (place : at ≡ base + m) (room : at < length words) (value : v ≡ f m) where
  -- the next row's word is stored, whatever becomes of the set
  stored : {rows' : ℕ} → rows' < 2 ^ 64 → member rows' m ≡ not (eqb (f m) 0) → ((r : ℕ) → r < 64 → r ≢ m → member rows' r ≡ member rows r)
      → FilledTo done' f base words (set words' at v) rows'
  stored {rows'} small own rest = record {
    kept_length = length-set words' at v ∙ s.kept_length;
    filled = λ r h e full. filled_row r h e full (ℕ_discrete r m);
    small = small;
    gathered = λ r h. gathered_row r h (ℕ_discrete r m);
    kept = λ i h. get_or-set_other words' at i v 0 (λ e. ⊎_elim (λ l. omega arith) (λ l. omega arith) h) ∙ s.kept i h;
  }
    where
      filled_row : (r : ℕ) → r < 64 → done' r ≡ true → eqb (f r) 0 ≡ false → Dec (r ≡ m) → get_or (set words' at v) (base + r) 0 ≡ f r
      filled_row r h e full (yes q) = rw (q, ← place) (get_or-set_same words' at v 0 (omega (arith, s.kept_length)) ∙ value)
      filled_row r h e full (no n) = get_or-set_other words' at (base + r) v 0 (λ q. n (omega arith)) ∙ s.filled r h (sym (others r h n) ∙ e) full

      gathered_row : (r : ℕ) → r < 64 → Dec (r ≡ m) → member rows' r ≡ (done' r && not (eqb (f r) 0))
      gathered_row r h (yes q) = rw (q, is) own
      gathered_row r h (no n) = rest r h n ∙ s.gathered r h ∙ rw (others r h n) refl

  -- The row is gathered where its word is not empty,
  pub filled_more : eqb v 0 ≡ false → FilledTo done' f base words (set words' at v) (insert rows m)
  filled_more full =
      let inserted : ℕ → Bool = λ j. eqb j m || member rows j in
      stored (set_of_lt 64 inserted)
      (member_set_of 64 inserted m row ∙ rw (eq-eqb m m refl, ← value, full) refl)
      (λ r h n. member_set_of 64 inserted r h ∙ rw (ne_eqb r m n) refl)

  -- and not where it is.
  pub filled_skip : eqb v 0 ≡ true → FilledTo done' f base words (set words' at v) rows
  filled_skip empty = stored s.small (s.gathered m row ∙ rw (new, ← value, empty) refl) (λ r h n. refl)

module _ {done : ℕ → Bool} {f : ℕ → ℕ} {pairs : ℕ} {words words' : List ℕ} {rows : ℕ} (s : FilledTo done f (64 * pairs) words words' rows)
    (level : pairs < 64) (room : 4160 ≤ length words) where
  -- The level's set is the one gathered.
  pub level_set : open_set pairs (with_set words' pairs rows) ≡ rows
  level_set = get_or-set_same words' (4096 + pairs) rows 0 (omega (arith, s.kept_length))

  -- The rows that are done have the words of f, and the others none.
  pub level_word_lem : (r : ℕ) → r < 64 → level_word (with_set words' pairs rows) pairs r ≡ cond (done r) (f r) 0
  level_word_lem r h = go (done r) refl (eqb (f r) 0) refl
    where
      own : get_or (with_set words' pairs rows) (64 * pairs + r) 0 ≡ get_or words' (64 * pairs + r) 0
      own = get_or-set_other words' (4096 + pairs) (64 * pairs + r) rows 0 (λ e. omega arith)

      go : (d : Bool) → done r ≡ d → (e : Bool) → eqb (f r) 0 ≡ e → level_word (with_set words' pairs rows) pairs r ≡ cond d (f r) 0
      go true d false e =
          word_open (with_set words' pairs rows) pairs r (rw level_set (s.gathered r h ∙ rw (d, e) refl)) ∙ own ∙ s.filled r h d e
      go true d true e =
          word_closed (with_set words' pairs rows) pairs r (rw level_set (s.gathered r h ∙ rw (d, e) refl)) ∙ sym (eqb-true (f r) 0 e)
      go false d e q =
          word_closed (with_set words' pairs rows) pairs r (rw level_set (s.gathered r h ∙ rw d refl))

  -- A row of the set is done, and its word is not empty.
  pub level_member : (r : ℕ) → member (open_set pairs (with_set words' pairs rows)) r ≡ true
      → (r < 64) × (done r ≡ true) × (level_word (with_set words' pairs rows) pairs r ≢ 0)
  level_member r e =
      let inside : member rows r ≡ true = rw level_set at e in
      let h = member_below 64 r s.small inside in
      let both = (and-eq-true_iff (done r) (not (eqb (f r) 0))).0 (sym (s.gathered r h) ∙ inside) in
      let word : level_word (with_set words' pairs rows) pairs r ≡ f r = level_word_lem r h ∙ ap (λ (b : Bool). cond b (f r) 0) both.0 in
      (h, both.0, λ z. true≢false (sym both.1 ∙ ap (λ (w : ℕ). not (eqb w 0)) (sym word ∙ z)))

  -- Lower levels are unchanged.
  pub level_below : (p : ℕ) → p < pairs → SameLevels p words (with_set words' pairs rows)
  level_below p h =
      below_same level (length-set words' (4096 + pairs) rows ∙ s.kept_length)
      (λ i l. get_or-set_other words' (4096 + pairs) i rows 0 (λ e. omega arith) ∙ s.kept i (inl l))
      (λ i a l. get_or-set_other words' (4096 + pairs) i rows 0 (λ e. omega arith) ∙ s.kept i (inr (omega arith)))
      p h
