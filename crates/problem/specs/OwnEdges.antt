-- Graphs in which no vertex has an edge with itself, as 01's "a part with itself has 0" had it before 02, U4, and the rule of 01 for one pair of vertices,
-- "paired parts have equal kinds", which asks nothing of such edges.
use Rattle.std.specs.Prelude.{Bool, ◌&&◌, ◌≡◌, ℕ, ◌<◌, ltb}
use Rattle.graph.specs.Graph.{Graph, edge}
use Rattle.problem.specs.Problem.{Problem, compare_vertices}

abbrev pub NoOwnEdges : Graph → Type 0
NoOwnEdges g = (v : ℕ) → v < g.order → edge g v v ≡ 0

-- of both graphs
abbrev pub WithoutOwnEdges : Problem → Type 0
WithoutOwnEdges P = NoOwnEdges P.old × NoOwnEdges P.new

abbrev pub allowed_by_label : Problem → ℕ → ℕ → Bool
allowed_by_label P v w = ltb w P.new.order && compare_vertices P v w
