-- Clique branching, the search of document 004: 02, U2, "It takes rows in order, tries each free pair that fits those taken, then none, with no hope test.
-- One routine handles a row and another the choices in that row, each calling the other."
use Rattle.std.specs.Prelude.{cond, ℕ, zero, suc, ◌*◌, leb}
use mathlib.Core.List.{List, [], foldl}
use Rattle.std.proofs.Math.Option.{Option, none, some}
use Rattle.mapping.specs.Common.{size}
use Rattle.problem.specs.Problem.{Problem}
use Rattle.search_tree.specs.Rules.{Rules, rules_of}
use Rattle.search_tree.specs.Node.{choices, extend}
use Rattle.search_tree.specs.Walk.{cutoff}

-- a mapping is held where it reaches the minimum or, once one is held, where it is larger
unfoldable pub keep_larger : ℕ → List ℕ → Option (List ℕ) → Option (List ℕ)
keep_larger minimum path incumbent = cond (leb (cutoff minimum incumbent) (size path)) (some path) incumbent

module _ (R : Rules) (minimum : ℕ) where
  -- what is held after the rows that the path leaves undecided; each row has two turns, its own and that of its choices
  unfoldable mutual
    pub branch_row : ℕ → List ℕ → Option (List ℕ) → Option (List ℕ)
    branch_row zero path incumbent = keep_larger minimum path incumbent
    branch_row (suc turns) path incumbent = branch_choices turns path (choices R path) incumbent

    -- what is held after these choices of the next row, each followed by the rows after it
    pub branch_choices : ℕ → List ℕ → List ℕ → Option (List ℕ) → Option (List ℕ)
    branch_choices zero path cs incumbent = incumbent
    branch_choices (suc turns) path cs incumbent = foldl (λ held v. branch_row turns (extend path v) held) incumbent cs

-- what the search of a problem holds at its end
abbrev pub branch : Problem → ℕ → Option (List ℕ)
branch P minimum = branch_row (rules_of P) minimum (2 * P.old.order) [] none
