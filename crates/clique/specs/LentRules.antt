-- The rules of the search by what the code is lent, and the sets of vertices that an old one may lie on (02, U2, "each free pair that
-- fits").
-- For a sound problem the search by them is the search by the problem's own rules.
use Rattle.std.specs.Prelude.{Bool, ◌&&◌, ◌||◌, List, [], ◌++◌, ◌∷◌, ℕ, eqb, get_or}
use Rattle.bounded.specs.Below.{all_below, run_below}
use Rattle.bitset.specs.Members.{member}
use Rattle.problem.specs.Problem.{compare_edges, consistent}
use Rattle.problem.specs.declared.Problem.{Problem as LentProblem}
use Rattle.problem.specs.Lent.{lent}
use Rattle.mapping.specs.Common.{unmapped}
use Rattle.search_tree.specs.Rules.{Rules}
use Rattle.search_tree.specs.Node.{fits, list_if}

abbrev pub lent_rules : LentProblem → List ℕ → Rules
lent_rules p sets =
    record {
      rows = p.old.order;
      values = p.new.order;
      allowed = λ v w. member (get_or sets v 0) w;
      consistent = consistent (lent p);
    }

-- row i is left out, or its edge to row r is that of its vertex to v
abbrev pub edge_fits : LentProblem → List ℕ → ℕ → ℕ → ℕ → Bool
edge_fits p path r v i = eqb (get_or path i 0) unmapped || compare_edges (lent p) i r (get_or path i 0) v

-- v is in the row's set, and fits beside the rows before it
abbrev pub lent_candidate : LentProblem → List ℕ → List ℕ → ℕ → ℕ → Bool
lent_candidate p sets path r v = member (get_or sets r 0) v && all_below r (fits (lent_rules p sets) path r v)

-- the choices of a row whose candidates are this set: each, rising, then none
abbrev pub choices_of : ℕ → List ℕ
choices_of set = run_below 64 (λ v. list_if (member set v) v) ++ (unmapped ∷ [])
