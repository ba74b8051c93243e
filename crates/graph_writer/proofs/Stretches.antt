-- Stretches of graph bytes that make one graph of another: a vertex, an edge, one stretch after the other, and a run of stretches.
use mathlib.Core.Path.{◌≡◌, ◌∙◌}
use mathlib.Core.List.{List, [], ◌∷◌, ◌++◌, append_assoc}
use Prim.Native.Nat.{ℕ, zero, suc, ◌+◌, ◌*◌, ◌/◌, ◌%◌, ◌≤◌, ◌<◌, max}
use native.Mathlib.Nat.{add-zero, add_assoc}
use native.Mathlib.Omega.{arith}
use lib.ListN.{length, drop, length-append}
use borrow.Author.Tests.{le-leb, lt-leb, eq-eqb, ne_eqb}
use Rattle.bounded.specs.Below.{run_below}
use Rattle.graph.specs.Graph.{Graph, edge}
use Rattle.graph_reader.specs.declared.Edition.{Edition}
use Rattle.graph_reader.specs.declared.Edition.TheVariants.{One, Two}
use Rattle.graph_reader.specs.declared.commands.Command.{Command}
use Rattle.graph_reader.specs.declared.commands.Command.TheVariants.{Vertex, Edge}
use Rattle.graph_reader.specs.Commands.{decode, width}
use Rattle.graph_reader.specs.Editions.{greatest_label}
use Rattle.graph_reader.specs.Reading.{grows, judge, with_vertex, with_edge, read_all, read_at}
use Rattle.graph_reader.proofs.Fuel.{read_step}
use Rattle.graph_writer.specs.Writing.{vertex_command}

-- these bytes, read with the graph g, make the graph g', whatever stands after them
pub record Makes (from to : Edition) (g : Graph) (bytes : List ℕ) (g' : Graph) : Type 0 where
  pub onward : (at : ℕ) (rest : List ℕ) → read_at from to g at (bytes ++ rest) ≡ read_at from to g' (at + length bytes) rest

-- a number is its low byte and 256 times the rest
bytes_of : (x : ℕ) → x % 256 + 256 * (x / 256) ≡ x
bytes_of x = omega arith

module _ (from to : Edition) where
  -- No bytes leave the graph as it is.
  pub makes_nothing : (g : Graph) → Makes from to g [] g
  makes_nothing g = record { onward = λ at rest. rw add-zero }

  -- One stretch after the other.
  pub makes_both : {g h k : Graph} {first second : List ℕ} → Makes from to g first h → Makes from to h second k → Makes from to g (first ++ second) k
  makes_both {first} {second} p q = record {
    onward = λ at rest. rw (append_assoc, length-append, ← add_assoc) (p.onward at (second ++ rest) ∙ q.onward (at + length first) rest);
  }

  -- A run of stretches, each of which makes the next graph of a family.
  pub makes_run : (family : ℕ → Graph) (bytes : ℕ → List ℕ) (n : ℕ) → ((k : ℕ) → k < n → Makes from to (family k) (bytes k) (family (suc k)))
      → Makes from to (family 0) (run_below n bytes) (family n)
  unfolding run_below
  makes_run family bytes zero each = makes_nothing (family 0)
  makes_run family bytes (suc n) each = makes_both (makes_run family bytes n (λ k h. each k (omega arith))) (each n (omega arith))

  -- one command that adds to the graph
  read_grows : (g g' : Graph) (at : ℕ) (bytes : List ℕ) (c : Command) → decode from bytes ≡ c → judge to g c ≡ grows g'
      → read_at from to g at bytes ≡ read_at from to g' (at + width from c) (drop (width from c) bytes)
  read_grows g g' at bytes c d j = read_step from to g at bytes ∙ rw (d, j)

  -- a vertex is judged to stand where its label is not 0 and one that the edition holds, and there is room for it
  vertex_stands : (g : Graph) (label : ℕ) → 1 ≤ label → label ≤ greatest_label to → g.order < 64 → judge to g (Vertex label) ≡ grows (with_vertex g label)
  unfolding judge
  vertex_stands g label l f o = simp (ne_eqb label 0 (omega arith), lt-leb 64 g.order o, le-leb label (greatest_label to) f)

  -- "2, a, b, kind: a link between parts already given", where the label is not 0 and the pair has no edge yet
  pub makes_edge : (g : Graph) (a b label : ℕ) → max a b < g.order → 1 ≤ label → edge g a b ≡ 0
      → Makes from to g (2 ∷ a ∷ b ∷ label ∷ []) (with_edge g a b label)
  unfolding judge
  makes_edge g a b label m l e = record {
    onward = λ at rest.
        read_grows g (with_edge g a b label) at (2 ∷ a ∷ b ∷ label ∷ rest) (Edge a b label)
        (edge_decoded from a b label rest)
        (simp (lt-leb g.order (max a b) m, ne_eqb label 0 (omega arith), eq-eqb (edge g a b) 0 e));
  }
    where
      edge_decoded : (edition : Edition) (a b label : ℕ) (rest : List ℕ) → decode edition (2 ∷ a ∷ b ∷ label ∷ rest) ≡ Edge a b label
      edge_decoded One a b label rest =
          simp (ne_eqb (length (2 ∷ a ∷ b ∷ label ∷ rest)) 0 (omega arith), le-leb 4 (length (2 ∷ a ∷ b ∷ label ∷ rest)) (omega arith))
      edge_decoded Two a b label rest =
          simp (ne_eqb (length (2 ∷ a ∷ b ∷ label ∷ rest)) 0 (omega arith), le-leb 4 (length (2 ∷ a ∷ b ∷ label ∷ rest)) (omega arith))

  -- "0: end", and nothing after it
  pub read_end : (g : Graph) (at : ℕ) → read_at from to g at (0 ∷ []) ≡ read_all g
  unfolding judge
  read_end g at = read_step from to g at (0 ∷ [])

-- "1, kind: the next part", or "3 and a two-byte kind, low first"
pub makes_vertex : (from to : Edition) (g : Graph) (label : ℕ) → 1 ≤ label → label ≤ greatest_label to → g.order < 64
    → Makes from to g (vertex_command from label) (with_vertex g label)
makes_vertex One to g label l f o = record {
  onward = λ at rest.
      read_grows One to g (with_vertex g label) at (1 ∷ label ∷ rest) (Vertex label)
      (simp (ne_eqb (length (1 ∷ label ∷ rest)) 0 (omega arith), le-leb 2 (length (1 ∷ label ∷ rest)) (omega arith)))
      (vertex_stands One to g label l f o);
}
makes_vertex Two to g label l f o = record {
  onward = λ at rest.
      read_grows Two to g (with_vertex g label) at (3 ∷ label % 256 ∷ label / 256 ∷ rest) (Vertex label)
      (simp (ne_eqb (length (3 ∷ label % 256 ∷ label / 256 ∷ rest)) 0 (omega arith), le-leb 3 (length (3 ∷ label % 256 ∷ label / 256 ∷ rest)) (omega arith), bytes_of))
      (vertex_stands Two to g label l f o);
}
