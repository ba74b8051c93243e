-- What the search's code holds between two visits: a checkpoint with its pairs and its cutoff counted, and the words of its path's ancestors
-- (01, "The walk" and "Bookmark and calls").
use Rattle.std.specs.Prelude.{◌≡◌, Bool, true, false, ◌⊎◌, ◌≢◌, List, [], ◌∷◌, map, ℕ, suc, ◌+◌, ◌-◌, ◌^◌, ◌≤◌, ◌<◌, length, get_or, take}
use Rattle.graph.specs.Graph.{graph}
use Rattle.problem.specs.Problem.{Problem, SoundProblem}
use Rattle.mapping.specs.Common.{unmapped, size}
use Rattle.search_tree.specs.Rules.{Rules, rules_of}
use Rattle.search_tree.specs.Node.{upper_bound, extend, children, choices_after, later_siblings}
use Rattle.search_tree.specs.Trees.{Reached}
use Rattle.search_tree.specs.Walk.{State, cutoff}
use Rattle.search_tree.specs.Ceiling.{top_bound}
use Rattle.search.specs.declared.tables.Tables.{Tables}
use Rattle.search.specs.declared.tables.Pair.{Pair}
use Rattle.search.specs.declared.walk.Place.{Place}
use Rattle.search.specs.declared.walk.Walk.{Walk}
use Rattle.checkpoint.specs.declared.Checkpoint.{Checkpoint}
use Rattle.checkpoint.specs.Checkpoints.{state_of, checkpoint_of, InShape}
use Rattle.search.specs.Words.{Masks, Words, open_rows}

-- the problem whose old order, old edges and masks the code was lent
pub record Setting (P : Problem) (n : ℕ) (edges masks : List ℕ) : Type 0 where
  pub sound : SoundProblem P
  pub order_is : P.old.order ≡ n
  pub edges_is : P.old.edges ≡ edges
  pub masks_are : Masks (graph P.new.order [] P.new.edges) masks

-- the problem whose old order, old edges and masks the tables hold,
abbrev pub Lends : Problem → Tables → Type 0
Lends P t = Setting P t.order t.edges.now t.masks.now

-- or whose old edges and masks they hold
abbrev pub LendsEdges : Problem → Tables → Type 0
LendsEdges P t = Setting P P.old.order t.edges.now t.masks.now

-- a node of the tree, with its number of pairs, and the words of its ancestors
pub record AtNode (P : Problem) (path : List ℕ) (depth pairs : ℕ) (workspace : List ℕ) : Type 0 where
  pub path_length : length path ≡ 64
  pub room : 4160 ≤ length workspace
  pub reached : Reached (rules_of P) (take depth path)
  pub depth_max : depth ≤ P.old.order
  pub pairs_are : pairs ≡ size (take depth path)
  pub words : Words P path (depth - 1) workspace

-- a row that is to be decided, after so many pairs, and the words of the path before it and of its ancestors
pub record AtRow (P : Problem) (path : List ℕ) (row pairs : ℕ) (workspace : List ℕ) : Type 0 where
  pub path_length : length path ≡ 64
  pub row_max : row < P.old.order
  pub pairs_are : pairs ≡ size (take row path)
  pub words : Words P path row workspace

-- what keeps the code's reads and writes in bounds beside the lengths of the tables, whatever the problem
pub record InBounds (path : List ℕ) (depth pairs : ℕ) (workspace : List ℕ) : Type 0 where
  pub path_length : length path ≡ 64
  pub room : 4160 ≤ length workspace
  pub depth_max : depth ≤ 64
  pub pairs_are : pairs ≡ size (take depth path)
  pub entry : (k : ℕ) → k < depth → (get_or path k 0 ≡ unmapped) ⊎ (get_or path k 0 < 64)

-- the upper bound of a node, and its own words; or, where that is below the cutoff, some number below it
pub record Bounded (P : Problem) (path : List ℕ) (depth cutoff : ℕ) (workspace : List ℕ) (bound : ℕ) : Type 0 where
  pub low : bound < cutoff → upper_bound (rules_of P) (take depth path) < cutoff
  pub high : cutoff ≤ bound → (bound ≡ upper_bound (rules_of P) (take depth path)) × Words P path depth workspace
  -- the words of the node's ancestors stand in either case
  pub words : Words P path (depth - 1) workspace

-- what holds between two visits
pub record Ready (connected : Bool) (P : Problem) (w : Walk) (workspace : List ℕ) : Type 0 where
  pub shape : InShape connected P w.checkpoint
  pub incumbent_length : length w.checkpoint.incumbent ≡ 64
  pub node : AtNode P w.checkpoint.path w.checkpoint.depth w.pairs workspace
  pub cutoff_is : w.cutoff ≡ cutoff w.checkpoint.minimum (state_of P.old.order w.checkpoint).incumbent
  pub bounded : Bounded P w.checkpoint.path w.checkpoint.depth w.cutoff workspace w.bound
  pub small : w.bound < 2 ^ 64 - 1

-- the checkpoint is that of a state, and the walk is ready for a visit there
pub record Arrives (connected : Bool) (P : Problem) (minimum : ℕ) (s : State) (w : Walk) (workspace : List ℕ) : Type 0 where
  pub checkpoint_is : w.checkpoint ≡ checkpoint_of minimum s
  pub ready : Ready connected P w workspace

-- one more than the greatest upper bound of a node's children after the choice w
abbrev pub level_top : Rules → List ℕ → ℕ → ℕ
level_top R path w = top_bound R (map (extend path) (choices_after R path w))

-- "unused bytes .. (path bytes from the depth on ..) are 0"
abbrev pub RestZero : List ℕ → ℕ → Type 0
RestZero path depth = (i : ℕ) → depth ≤ i → i < 64 → get_or path i 0 ≡ 0

-- the path of `depth` entries that ends in `last` and is another path before it, with unused bytes 0
pub record Moved (path : List ℕ) (depth last : ℕ) (path' : List ℕ) : Type 0 where
  pub path_length : length path' ≡ 64
  pub front : (i : ℕ) → i + 1 < depth → i < 64 → get_or path' i 0 ≡ get_or path i 0
  pub entry : (i : ℕ) → i + 1 ≡ depth → i < 64 → get_or path' i 0 ≡ last
  pub rest : RestZero path' depth

-- what a pair on the trail says: how many later rows had a candidate before it was met, its row, and its value
pub record Says (p : Pair) (later row value : ℕ) : Type 0 where
  pub row_is : p.row.0 ≡ row
  pub value_is : p.value.0 ≡ value
  pub later_is : p.later ≡ later

-- the pairs of the path's first `depth` entries, each at the number of pairs before it
pub record OnTrail (path : List ℕ) (depth : ℕ) (trail : List Pair) (workspace : List ℕ) : Type 0 where
  pub places : length trail ≡ 64
  pub value : (k : ℕ) → k < depth → get_or path k 0 ≢ unmapped → get_or path k 0 < 64
  pub pair : (k : ℕ) → k < depth → get_or path k 0 ≢ unmapped → (d : Pair)
      → Says (get_or trail (size (take k path)) d) (open_rows (k + 1) (size (take k path)) workspace) k (get_or path k 0)

-- how many rows from `depth` on have a candidate before the last entry is met
pub record OpenIs (depth pairs last later : ℕ) (workspace : List ℕ) : Type 0 where
  pub left_out : last ≡ unmapped → later ≡ open_rows depth pairs workspace
  pub taken : last ≢ unmapped → later ≡ open_rows depth (pairs - 1) workspace

-- the last of the path's first `depth` entries, where there is one; the root has none, and is as if left out
abbrev pub LastIs : List ℕ → ℕ → ℕ → Type 0
LastIs path depth last = (0 < depth → get_or path (depth - 1) 0 ≡ last) × (depth ≡ 0 → last ≡ unmapped)

-- some path leads to the place
pub record Placed (p : Place) (workspace : List ℕ) : Type 0 where
  pub path : List ℕ
  pub bounds : InBounds path p.depth p.pairs workspace
  pub last_is : LastIs path p.depth p.last
  pub open_is : OpenIs p.depth p.pairs p.last p.later workspace

-- the place is the first child of the node
pub record Descends (P : Problem) (path : List ℕ) (depth : ℕ) (workspace : List ℕ) (r : Place) (path' : List ℕ) : Type 0 where
  pub goes_on : r.finished ≡ false
  pub deeper : r.depth ≡ suc depth
  pub child : (rest : List (List ℕ)) × (children (rules_of P) (take depth path) ≡ take r.depth path' ∷ rest)
  pub node : AtNode P path' r.depth r.pairs workspace
  pub rest_zero : RestZero path depth → RestZero path' r.depth

-- the place is the nearest later sibling of the node or of an ancestor, or there is none
pub record Retreats (P : Problem) (path : List ℕ) (depth : ℕ) (workspace : List ℕ) (r : Place) (path' : List ℕ) : Type 0 where
  pub none_left : r.finished ≡ true → (later_siblings (rules_of P) (take depth path) depth ≡ []) × (r.depth ≡ 0)
  pub sibling : r.finished ≡ false
      → (rest : List (List ℕ)) × (later_siblings (rules_of P) (take depth path) depth ≡ take r.depth path' ∷ rest)
  pub node : AtNode P path' r.depth r.pairs workspace
  pub rest_zero : RestZero path depth → RestZero path' r.depth

-- the steps made so far and a budget count below 2^64, unless the search is finished
abbrev pub CountFits : Checkpoint → ℕ → Type 0
CountFits c budget = c.finished ≡ false → c.steps + budget < 2 ^ 64

-- some problem's search can go on from here with what the code is lent
pub record Resumes (t : Tables) (w : Walk) (workspace : List ℕ) : Type 0 where
  pub problem : Problem
  pub setting : Lends problem t
  pub ready : Ready t.connected problem w workspace

-- a walk at the checkpoint, ready for a visit
pub record Starts (connected : Bool) (P : Problem) (c : Checkpoint) (w : Walk) (workspace : List ℕ) : Type 0 where
  pub checkpoint_is : w.checkpoint ≡ c
  pub ready : Ready connected P w workspace
