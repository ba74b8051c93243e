-- The loop that rebuilds the words of a path, a row a turn.
use mathlib.Core.Path.{◌≡◌, refl, ◌∙◌}
use mathlib.Core.List.{List}
use Prim.Native.Nat.{ℕ, ◌+◌, ◌≤◌, ◌<◌}
use native.Mathlib.Omega.{arith}
use lib.ListN.{length, get_or, take}
use Rattle.problem.specs.Problem.{Problem}
use Rattle.mapping.specs.Common.{unmapped, size}
use Rattle.mapping.proofs.Size.{size_nil}
use Rattle.search_tree.specs.Rules.{rules_of}
use Rattle.search_tree.specs.Trees.{Reached}
use Rattle.search.specs.Words.{Refined, Words}
use Rattle.search.specs.Walking.{Setting}
use Rattle.search.proofs.WordLevels.{size_left_out, words_shorter, words_left_out}
use Rattle.search.proofs.NodeWords.{size_mapped, words_taken}

-- The invariant: whatever the problem, the words of the path's first `row` entries, which have so many pairs, follow from those of the root.
pub record RebuiltTo (edges masks path : List ℕ) (depth : ℕ) (ws ws' : List ℕ) (row pairs : ℕ) : Type 0 where
  pub within : row ≤ depth
  pub kept_length : length ws' ≡ length ws
  pub pairs_are : pairs ≡ size (take row path)
  pub words : (P : Problem) → Setting P P.old.order edges masks → depth ≤ P.old.order → Reached (rules_of P) (take depth path) → Words P path 0 ws
      → Words P path row ws'

module _ {edges masks path : List ℕ} {depth : ℕ} {ws : List ℕ} where
  -- At first there are the root's words.
  pub rebuilt_none : RebuiltTo edges masks path depth ws ws 0 0
  rebuilt_none = record { within = omega arith; kept_length = refl; pairs_are = omega (arith, size_nil); words = λ P setting deep reached root. root }

  -- A row that is left out changes no word.
  pub rebuilt_left_out : {ws' : List ℕ} {row pairs : ℕ} → row < depth → get_or path row 0 ≡ unmapped
      → RebuiltTo edges masks path depth ws ws' row pairs → RebuiltTo edges masks path depth ws ws' (row + 1) pairs
  rebuilt_left_out {row = row} h out s = record {
    within = omega arith;
    kept_length = s.kept_length;
    pairs_are = omega (arith, s.pairs_are, size_left_out path row out);
    words = λ P setting deep reached root. words_left_out P out (s.words P setting deep reached root);
  }

  -- A row that took a new vertex is refined.
  pub rebuilt_taken : {ws' ws'' : List ℕ} {row pairs : ℕ} → length path ≡ 64 → depth ≤ 64 → row < depth → (get_or path row 0 ≡ unmapped → ⊥)
      → Refined edges masks row pairs (get_or path row 0) ws' ws''
      → RebuiltTo edges masks path depth ws ws' row pairs → RebuiltTo edges masks path depth ws ws'' (row + 1) (pairs + 1)
  rebuilt_taken {row = row} long within h mapped refined s = record {
    within = omega arith;
    kept_length = refined.kept.words ∙ s.kept_length;
    pairs_are = omega (arith, s.pairs_are, size_mapped path row (omega arith) mapped);
    words = λ P setting deep reached root.
        words_taken setting path depth long deep reached row h mapped (rw s.pairs_are at refined)
        (s.words P setting deep reached root);
  }

  -- At the end the words of the whole path are there.
  pub rebuilt_all : {ws' : List ℕ} {row pairs : ℕ} → depth ≤ row → RebuiltTo edges masks path depth ws ws' row pairs
      → (P : Problem) → Setting P P.old.order edges masks → depth ≤ P.old.order → Reached (rules_of P) (take depth path) → Words P path 0 ws
      → Words P path depth ws'
  rebuilt_all h s P setting deep reached root = words_shorter (omega arith) (s.words P setting deep reached root)
