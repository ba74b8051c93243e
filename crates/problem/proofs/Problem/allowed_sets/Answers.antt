-- `problem::Problem::allowed_sets` meets its contract: the sets of the labels meet those of the diagonals (`allowing_made`).
-- Assumes nothing.
use Rattle.problem.proofs.VertexSets.{allowing_made}
use Rattle.problem.proofs.Problem.allowed_sets.Goals as goal

pub returns : goal.returns
returns c =
    allowing_made _ c.agreeing-agreeing.ensures c.diagonal-old.ensures c.diagonal-new.ensures c.agreeing-same.ensures
    c.meet_all.ensures
