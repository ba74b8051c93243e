-- `search::words::fill_masks` meets its contract: the masks of the vertices passed are filled in, and the others are empty (`MaskRows`).
-- Assumes nothing.
use mathlib.Core.List.{[]}
use Rattle.graph.specs.Graph.{graph}
use Rattle.search.proofs.MaskRows.{MasksTo}
use Rattle.search.proofs.words.fill_masks.Given as goal

abbrev pub invariant-loop-w : goal.invariant-loop-w
invariant-loop-w l = MasksTo (graph l.order [] l.edges) l.w l.masks
