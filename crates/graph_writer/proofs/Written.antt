-- What the tests of soundness tell of a writing, and what an accepted writing tells: the graph passed them, and its bytes stand at the front of
-- the buffer.
use mathlib.Core.Path.{◌≡◌, refl}
use mathlib.Core.Bool.{Bool, true, false, cond}
use mathlib.Core.List.{List}
use Prim.Native.Nat.{ℕ}
use lib.ListN.{take}
use Rattle.answers.specs.Answer.{Answer, passed, accepted, refused}
use Rattle.answers.specs.Output.{fill, write_if}
use Rattle.answers.proofs.Filled.{filled_bytes}
use Rattle.graph.specs.Graph.{Graph}
use Rattle.graph.specs.Soundness.{tables_fit, labels_sound, edges_sound, soundness}
use Rattle.graph_writer.specs.Writing.{graph_bytes, writing}

-- A graph that passed is filled in where it fits.
pub passed_writing : (g : Graph) (buffer : List ℕ) → soundness g ≡ passed → writing g buffer ≡ fill (graph_bytes g) buffer
unfolding writing
passed_writing g buffer e = rw e

-- A graph that did not pass is refused by the same number, and the buffer stays as it was.
pub refused_writing : (g : Graph) (buffer : List ℕ) (number : ℕ) → soundness g ≡ refused number
    → writing g buffer ≡ record { answer = refused number; buffer = buffer }
unfolding writing
refused_writing g buffer number e = rw e

-- An accepted writing is of a graph that passed.
pub written_passed : (g : Graph) (buffer : List ℕ) (k : ℕ) → (writing g buffer).answer ≡ accepted k → soundness g ≡ passed
unfolding writing soundness
written_passed g buffer k = go (tables_fit g.order g.labels g.edges) (labels_sound g.order g.labels) (edges_sound g.order g.edges)
  where
    found : Bool → Bool → Bool → Answer
    found t l e = cond t (cond l (cond e passed (refused 12)) (refused 11)) (refused 10)

    go : (t l e : Bool) → (write_if (found t l e) (graph_bytes g) buffer).answer ≡ accepted k → found t l e ≡ passed
    go true true true a = refl
    go true true false a = cc
    go true false e a = cc
    go false l e a = cc

-- An accepted writing of k bytes leaves the graph's bytes in the first k of the buffer.
pub written_bytes : (g : Graph) (buffer : List ℕ) (k : ℕ) → (writing g buffer).answer ≡ accepted k
    → take k (writing g buffer).buffer ≡ graph_bytes g
written_bytes g buffer k a =
    let w = passed_writing g buffer (written_passed g buffer k a) in
    rw w (filled_bytes (graph_bytes g) buffer k (rw w at a))
