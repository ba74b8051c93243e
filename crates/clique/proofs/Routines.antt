-- What each routine of the code returns, by what it is handed: a path in an array, the depth, and the word of the candidates that are left.
use mathlib.Core.Path.{◌≡◌, sym, ap, ◌∙◌}
use mathlib.Core.List.{List}
use mathlib.Core.Option.{Option}
use Prim.Native.Nat.{ℕ, suc, ◌+◌, ◌-◌, ◌*◌, ◌≤◌, ◌<◌}
use native.Mathlib.Numerals.{add-one}
use native.Mathlib.Omega.{arith}
use lib.ListN.{length, set, take}
use lib.Seq.{length-take-le, take-suc-set}
use Rattle.bitset.specs.Members.{set_of}
use Rattle.bitset.specs.Least.{least_member, without_least}
use Rattle.std.specs.Prelude.{Some, None}
use Rattle.mapping.specs.Common.{unmapped}
use Rattle.search_tree.specs.Rules.{Rules}
use Rattle.search_tree.specs.Node.{candidate, choices, extend}
use Rattle.clique.specs.Branching.{keep_larger, branch_row, branch_choices}
use Rattle.clique.specs.LentRules.{choices_of}
use Rattle.clique.proofs.Turns.{row_end, row_turns, choices_turns, choices_last}
use Rattle.clique.proofs.WordChoices.{choices_of_empty, choices_of_least, choices_word}

module _ (R : Rules) (minimum : ℕ) (path : List ℕ) (depth : ℕ) (held : Option (List ℕ)) where
  -- Where every row is decided, the path is held if it has enough pairs.
  pub row_decided : depth ≡ R.rows → keep_larger minimum (take depth path) held ≡ branch_row R minimum (2 * (R.rows - depth)) (take depth path) held
  row_decided e = sym (ap (λ (k : ℕ). branch_row R minimum k (take depth path) held) none ∙ row_end R minimum (take depth path) held)
    where
      none : 2 * (R.rows - depth) ≡ 0
      none = omega arith

  module _ (inside : depth < length path) where
    -- the path with one more row decided
    next_path : (v : ℕ) → take (depth + 1) (set path depth v) ≡ extend (take depth path) v
    next_path v = rw add-one (take-suc-set path depth v inside)

    -- A row that is not decided is the choices of the word of its candidates.
    pub row_open : depth < R.rows → R.values ≤ 64 → {word : ℕ} → word ≡ set_of 64 (candidate R (take depth path) depth)
        → branch_choices R minimum (2 * (R.rows - (depth + 1)) + 1) (take depth path) (choices_of word) held
        ≡ branch_row R minimum (2 * (R.rows - depth)) (take depth path) held
    row_open undecided few {word} e =
        ap (λ (cs : List ℕ). branch_choices R minimum (2 * (R.rows - (depth + 1)) + 1) (take depth path) cs held) (sym all)
        ∙ sym (row_turns R minimum (take depth path) held (R.rows - (depth + 1)))
        ∙ ap (λ (k : ℕ). branch_row R minimum (2 * k) (take depth path) held) left
      where
        all : choices R (take depth path) ≡ choices_of word
        all =
            choices_word R (take depth path) few
            ∙ ap (λ (n : ℕ). choices_of (set_of 64 (candidate R (take depth path) n))) (length-take-le depth path (omega arith)) ∙ ap choices_of (sym e)

        left : suc (R.rows - (depth + 1)) ≡ R.rows - depth
        left = omega arith

    module _ (k s : ℕ) where
      -- Where no candidate is left, the row is left out.
      pub no_candidate : least_member s ≡ None
          → branch_row R minimum (2 * k) (take (depth + 1) (set path depth unmapped)) held
          ≡ branch_choices R minimum (2 * k + 1) (take depth path) (choices_of s) held
      no_candidate e = rw (choices_of_empty s e, choices_last, next_path)

      -- The least candidate that is left is taken, and then come the others.
      pub least_candidate : (v : ℕ) → least_member s ≡ Some v → {rest : ℕ} → rest ≡ without_least s
          → branch_choices R minimum (2 * k + 1) (take depth path) (choices_of rest) (branch_row R minimum (2 * k) (take (depth + 1) (set path depth v)) held)
          ≡ branch_choices R minimum (2 * k + 1) (take depth path) (choices_of s) held
      least_candidate v e q = rw (q, choices_of_least s v e, choices_turns, next_path)
