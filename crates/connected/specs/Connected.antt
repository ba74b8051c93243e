-- When the mapped old vertices hang together: 02, U7, "matchings whose kept old parts hang together by links among themselves; sizes 0 and 1 count as
-- connected".
use Rattle.std.specs.Prelude.{◌≢◌, List, ℕ, ◌<◌, length, get_or}
use Rattle.graph.specs.Graph.{Graph, edge}
use Rattle.mapping.specs.Common.{unmapped}

-- the old vertex v is mapped; 02: a kept part
abbrev pub Mapped : List ℕ → ℕ → Type 0
Mapped l v = (v < length l) × (get_or l v 0 ≢ unmapped)

module _ (g : Graph) (l : List ℕ) where
  -- "by links among themselves": two different mapped vertices with an edge, of any label; an edge of a vertex with itself joins nothing
  pub record Adjacent (u v : ℕ) : Type 0 where
    pub from : Mapped l u
    pub to : Mapped l v
    pub apart : u ≢ v
    pub linked : edge g u v ≢ 0

  -- the field's path, from one vertex to another over adjacent ones (a path is a node of the search here): none leads through a vertex that is left out
  pub data Way : ℕ → ℕ → Type 0 where
    here : {v : ℕ} → Way v v
    on : {u v w : ℕ} → Adjacent u v → Way v w → Way u w

  -- a way leads from each mapped vertex to each other
  abbrev pub Connected : Type 0
  Connected = (u v : ℕ) → Mapped l u → Mapped l v → Way u v
