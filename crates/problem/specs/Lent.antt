-- Two graphs and the list of substitutes as the code is lent them (01, "Charts", "Tables: 64 kind bytes and 4,096 link bytes", the kinds since 02, U6, "64
-- numbers of 16 bits"; 02, U1, "A lent list").
use Rattle.std.specs.Prelude.{◌≡◌, length}
use Rattle.graph.specs.Lent.{lent_graph}
use Rattle.problem.specs.declared.Problem.{Problem as LentProblem}
use Rattle.problem.specs.Problem.{Problem, problem, substituting}

abbrev pub lent : LentProblem → Problem
lent p = substituting p.substitutes.now (problem (lent_graph p.old) (lent_graph p.new))

-- both edge tables have their length
abbrev pub EdgesLong : LentProblem → Type 0
EdgesLong p = (length p.old.edges.now ≡ 4096) × (length p.new.edges.now ≡ 4096)
