-- The measures of the cycle of calls {branch_choices, branch_row}. The falling number is made of the rows left and, for the choices of a row, of the candidates
-- left, at most 64: a row counts 66, so that the choices of a row, with one for the choice of none, stay below it and above the rows after it.
-- Assumes nothing.
use Prim.Native.Nat.{◌+◌, ◌-◌, ◌*◌}
use Rattle.bitset.specs.Count.{size}
use Rattle.clique.proofs.candidates.Allowed.+branch_choices_branch_row.Given as goal

abbrev pub decreases-branch_choices : goal.decreases-branch_choices
decreases-branch_choices l = (l.self.now.problem.old.order - (l.depth + 1)) * 66 + size l.candidates + 1

abbrev pub decreases-branch_row : goal.decreases-branch_row
decreases-branch_row l = (l.self.now.problem.old.order - l.depth) * 66
