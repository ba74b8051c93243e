-- The loop that fills the level of the root, a row a turn.
use mathlib.Core.Path.{◌≡◌, refl, ◌∙◌}
use mathlib.Core.Logic.{◌≢◌}
use mathlib.Core.Bool.{true, false}
use mathlib.Core.List.{List}
use Prim.Native.Nat.{ℕ, ◌+◌, ◌*◌, ◌≤◌, ◌<◌}
use native.Mathlib.Decide.{dec_lt}
use native.Mathlib.Omega.{arith}
use lib.Dec.{ltb, eqb}
use lib.ListN.{length, set, length-set}
use borrow.Author.Tests.{lt-ltb, le-ltb, ltb-true}
use Rattle.bitset.specs.Members.{set_of, insert}
use Rattle.problem.specs.Problem.{Problem, allowed}
use Rattle.search.specs.Words.{RootWords}
use Rattle.search.proofs.LevelStores.{FilledTo, filled_none, filled_more, filled_skip, level_word_lem, level_member}

-- a row's word at the root: the new vertices that it may lie on
abbrev pub root_word : Problem → ℕ → ℕ
root_word P r = set_of 64 (allowed P r)

-- The invariant: level 0 is filled for the rows below k.
abbrev pub RootTo : Problem → List ℕ → List ℕ → ℕ → ℕ → Type 0
RootTo P ws ws' k rows = FilledTo (λ r. ltb r k) (root_word P) (64 * 0) ws ws' rows

module _ (P : Problem) (ws : List ℕ) where
  pub root_none : RootTo P ws ws 0 0
  root_none = filled_none _ _ _ _ (λ r h. le-ltb r 0 (omega arith))

  module _ {ws' : List ℕ} {k rows : ℕ} (s : RootTo P ws ws' k rows) (row : k < 64) (room : 4160 ≤ length ws) where
    others : (r : ℕ) → r < 64 → r ≢ k → ltb r (k + 1) ≡ ltb r k
    others r h n = go (dec_lt r k)
      where
        go : Dec (r < k) → ltb r (k + 1) ≡ ltb r k
        go (yes l) = rw (lt-ltb r k l, lt-ltb r (k + 1) (omega arith)) refl
        go (no l) = rw (le-ltb r k (omega arith), le-ltb r (k + 1) (omega arith)) refl

    -- A row's word is stored, and gathered where it is not empty,
    pub root_more : {v : ℕ} → v ≡ root_word P k → eqb v 0 ≡ false → RootTo P ws (set ws' k v) (k + 1) (insert rows k)
    root_more {v} is full =
        filled_more s (λ r. ltb r (k + 1)) k row (le-ltb k k (omega arith)) (lt-ltb k (k + 1) (omega arith)) others k v (omega arith) (omega arith) is full

    -- and not where it is.
    pub root_skip : {v : ℕ} → v ≡ root_word P k → eqb v 0 ≡ true → RootTo P ws (set ws' k v) (k + 1) rows
    root_skip {v} is empty =
        filled_skip s (λ r. ltb r (k + 1)) k row (le-ltb k k (omega arith)) (lt-ltb k (k + 1) (omega arith)) others k v (omega arith) (omega arith) is empty

  -- Once the set is stored, level 0 holds the words of all rows.
  pub root_all : {ws' : List ℕ} {k rows : ℕ} → k ≡ P.old.order → P.old.order ≤ 64 → 4160 ≤ length ws → RootTo P ws ws' k rows
      → RootWords P ws (set ws' 4096 rows)
  root_all {ws'} {k} {rows} all few room s = record {
    words = length-set ws' 4096 rows ∙ s.kept_length;
    root = λ r h. level_word_lem {pairs = 0} s (omega arith) room r (omega arith) ∙ rw (lt-ltb r k (omega arith)) refl;
    exact = record {
      inside = λ r e. rw all at (ltb-true r k (level_member {pairs = 0} s (omega arith) room r e).1);
      filled = λ r e. (level_member {pairs = 0} s (omega arith) room r e).2;
    };
  }
