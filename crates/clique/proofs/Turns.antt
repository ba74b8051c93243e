-- The turns of clique branching: a row takes two, its own and that of its choices, so that k rows take 2 * k.
use mathlib.Core.Path.{◌≡◌, refl, ◌∙◌}
use mathlib.Core.List.{List, [], ◌∷◌}
use mathlib.Core.Option.{Option}
use Prim.Native.Nat.{ℕ, zero, suc, ◌+◌, ◌*◌}
use native.Mathlib.Numerals.{add-one}
use native.Mathlib.Omega.{arith}
use Rattle.search_tree.specs.Rules.{Rules}
use Rattle.search_tree.specs.Node.{choices, extend}
use Rattle.clique.specs.Branching.{keep_larger, branch_row, branch_choices}

-- Where no choice is left, what is held stays, whatever the turns.
pub choices_end : (R : Rules) (minimum turns : ℕ) (path : List ℕ) (held : Option (List ℕ)) → branch_choices R minimum turns path [] held ≡ held
unfolding branch_choices
choices_end R minimum zero path held = refl
choices_end R minimum (suc turns) path held = refl

module _ (R : Rules) (minimum : ℕ) (path : List ℕ) (held : Option (List ℕ)) where
  -- Where no row is left, the path is held if it reaches the cutoff.
  pub row_end : branch_row R minimum 0 path held ≡ keep_larger minimum path held
  unfolding branch_row
  row_end = refl

  -- A row is its choices, with the turns of the rows after it and one.
  pub row_turns : (k : ℕ) → branch_row R minimum (2 * suc k) path held ≡ branch_choices R minimum (2 * k + 1) path (choices R path) held
  unfolding branch_row
  row_turns k = rw (double, add-one)
    where
      double : 2 * suc k ≡ suc (suc (2 * k))
      double = omega arith

  -- The first choice is followed by the rows after it, and then the other choices have their turn.
  pub choices_turns : (k v : ℕ) (cs : List ℕ) → branch_choices R minimum (2 * k + 1) path (v ∷ cs) held
      ≡ branch_choices R minimum (2 * k + 1) path cs (branch_row R minimum (2 * k) (extend path v) held)
  unfolding branch_choices
  choices_turns k v cs = rw add-one

  -- The last choice is followed by the rows after it alone.
  pub choices_last : (k v : ℕ) → branch_choices R minimum (2 * k + 1) path (v ∷ []) held ≡ branch_row R minimum (2 * k) (extend path v) held
  choices_last k v = choices_turns k v [] ∙ choices_end R minimum (2 * k + 1) path (branch_row R minimum (2 * k) (extend path v) held)
