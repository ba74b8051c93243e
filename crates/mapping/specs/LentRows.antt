-- A row of the check by what the code reads for it: the new order and the edges of the lent problem, and the sets of vertices whose labels agree (01, the row
-- "Partner list" of the refusals). For a sound problem it is the row of `Check`.
use Rattle.std.specs.Prelude.{List, ℕ, get_or}
use Rattle.std.proofs.Math.Option.{Option}
use Rattle.bitset.specs.Members.{member}
use Rattle.problem.specs.declared.Problem.{Problem as LentProblem}
use Rattle.problem.specs.Lent.{lent}
use Rattle.mapping.specs.Answers.{Outcome}
use Rattle.mapping.specs.Check.{edge_fault, row_by}

unfoldable pub lent_row : LentProblem → List ℕ → List ℕ → ℕ → Option Outcome
lent_row p sets l v =
    row_by p.new.order (member (get_or sets v 0)) (edge_fault (lent p) l v) l v
