-- A graph that is tested passes, or is refused by one of 01's numbers.
use native.Mathlib.Omega.{arith}
use Rattle.answers.proofs.Choice.{either}
use Rattle.answers.proofs.RefusalNumbers.{Plain}
use Rattle.graph.specs.Graph.{Graph}
use Rattle.graph.specs.Soundness.{tables_fit, labels_sound, edges_sound, soundness}

-- A graph passes its test, or is refused by such a number.
pub soundness_plain : (g : Graph) → Plain (soundness g)
unfolding soundness
soundness_plain g =
    either Plain (tables_fit g.order g.labels g.edges)
    (either Plain (labels_sound g.order g.labels) (either Plain (edges_sound g.order g.edges) tt (omega arith)) (omega arith))
    (omega arith)
