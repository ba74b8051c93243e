-- A graph as the code is lent it: its order and its two tables (01, "Charts", "Tables: 64 kind bytes and 4,096 link bytes"; the kinds since 02, U6,
-- "64 numbers of 16 bits").
use Rattle.graph.specs.Graph.{Graph, graph}
use Rattle.graph.specs.declared.Graph.{Graph as LentGraph}

abbrev pub lent_graph : LentGraph → Graph
lent_graph g = graph g.order g.labels.now g.edges.now
