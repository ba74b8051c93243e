-- `search::words::mask_row` meets its contract: the masks of w hold its neighbours passed (`MaskRows`).
-- Assumes nothing.
use mathlib.Core.List.{[]}
use Rattle.graph.specs.Graph.{graph}
use Rattle.search.proofs.MaskRows.{MaskedTo}
use Rattle.search.proofs.words.mask_row.Given as goal

abbrev pub invariant-loop-v : goal.invariant-loop-v
invariant-loop-v l = MaskedTo (graph l.order [] l.edges) l.w l.v l.initial.masks l.masks
