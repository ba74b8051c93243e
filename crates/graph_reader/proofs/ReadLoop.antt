-- One turn of the loop that reads commands, on plain values: what a command that stands, the end and a fault make of the reading so far.
use mathlib.Core.Path.{◌≡◌, sym, ap, ap₂, ◌∙◌, subst}
use mathlib.Core.List.{List, [], ◌∷◌}
use Prim.Native.Nat.{ℕ, ◌+◌, ◌-◌, ◌≤◌, ◌<◌}
use native.Mathlib.Omega.{arith}
use lib.ListN.{length, drop, replicate, length-drop}
use lib.Seq.{drop-drop}
use Rattle.graph.specs.Graph.{Graph, graph, empty_graph}
use Rattle.graph_reader.specs.declared.Edition.{Edition}
use Rattle.graph_reader.specs.declared.commands.Command.{Command}
use Rattle.std.specs.Prelude.{Some, None, Ok, Err}
use Rattle.graph_reader.specs.declared.Fault.{Fault}
use Rattle.graph_reader.specs.Answers.{fault_number}
use Rattle.graph_reader.specs.Commands.{decode, width}
use Rattle.graph_reader.specs.Editions.{opening_width}
use Rattle.graph_reader.specs.Reading.{Verdict, grows, ends, faulty, judge, verdict_of, after, Reading, refuse_at, finish, on_verdict, read_at}
use Rattle.graph_reader.proofs.Fuel.{read_step}
use Rattle.graph_reader.proofs.Judge.{after_order, decode_fits}

-- what the commands of the whole bytes read to
abbrev pub whole : Edition → Edition → List ℕ → Reading
whole from to bytes = read_at from to empty_graph (opening_width from) (drop (opening_width from) bytes)

-- The invariant: what the whole bytes read to is what the rest reads to, from the place and the graph reached.
pub record Head (from to : Edition) (bytes labels edges : List ℕ) (order at : ℕ) : Type 0 where
  pub at_max : at ≤ length bytes
  pub labels_length : length labels ≡ 64
  pub edges_length : length edges ≡ 4096
  pub order_max : order ≤ 64
  pub reads : whole from to bytes ≡ read_at from to (graph order labels edges) at (drop at bytes)

pub head_first : (from to : Edition) (bytes labels edges : List ℕ) → opening_width from ≤ length bytes → labels ≡ replicate 64 0 → edges ≡ replicate 4096 0
    → Head from to bytes labels edges 0 (opening_width from)
head_first from to bytes labels edges h l e =
    record {
      at_max = h;
      labels_length = ap length l;
      edges_length = ap length e;
      order_max = omega arith;
      reads = ap₂ (λ (x y : List ℕ). read_at from to (graph 0 x y) (opening_width from) (drop (opening_width from) bytes)) (sym l) (sym e);
    }

-- an end is a byte
end_there : (from to : Edition) (g : Graph) (rest : List ℕ) → judge to g (decode from rest) ≡ ends → 1 ≤ length rest
unfolding judge
end_there from to g [] e = let clash : ◌≡◌ {A = ℕ} 0 1 = cc in absurd (omega arith)
end_there from to g (x ∷ xs) e = omega arith

module _ (from to : Edition) (bytes labels edges : List ℕ) (order at : ℕ) (head : Head from to bytes labels edges order at) (command : Command) (told : command ≡ decode from (drop at bytes)) where
  -- what the whole bytes read to, by how the command is judged
  by_verdict : (j : Verdict) → j ≡ judge to (graph order labels edges) command → whole from to bytes ≡
      on_verdict
      (λ g'. read_at from to g' (at + width from command) (drop (at + width from command) bytes))
      (finish (graph order labels edges) (at + 1) (drop (at + 1) bytes))
      (λ number. refuse_at number at)
      j
  by_verdict j e =
      head.reads ∙ read_step from to (graph order labels edges) at (drop at bytes)
      ∙ rw (← told, e, drop-drop, drop-drop)

  -- a command that stands: the invariant holds again, and fewer bytes are left
  module _ (next : ℕ) (labels' edges' : List ℕ) (made : verdict_of (Ok (Some next)) labels' edges' ≡ judge to (graph order labels edges) command) where
    pub more_fits : (1 ≤ width from command) × (at + width from command ≤ length bytes)
    more_fits =
        let f = decode_fits from to (graph order labels edges) (drop at bytes) (graph next labels' edges') (ap (judge to (graph order labels edges)) (sym told) ∙ sym made) in
        let same : width from command ≡ width from (decode from (drop at bytes)) = ap (width from) told in
        (omega arith, omega (arith, length-drop at bytes, head.at_max))

    pub head_more : length labels' ≡ length labels → length edges' ≡ length edges → Head from to bytes labels' edges' next (at + width from command)
    head_more l e =
        record {
          at_max = more_fits.1;
          labels_length = l ∙ head.labels_length;
          edges_length = e ∙ head.edges_length;
          order_max = subst (λ (j : Verdict). (after (graph order labels edges) j).order ≤ 64) (sym made) (after_order to (graph order labels edges) command head.order_max);
          reads = by_verdict (grows (graph next labels' edges')) made;
        }

    pub falls : length bytes - (at + width from command) < length bytes - at
    falls = omega (arith, more_fits)

  -- the end: the tables stay, and a byte was there
  module _ (labels' edges' : List ℕ) (made : verdict_of (Ok None) labels' edges' ≡ judge to (graph order labels edges) command) where
    pub end_reads : whole from to bytes ≡ finish (graph order labels edges) (at + 1) (drop (at + 1) bytes)
    end_reads = by_verdict ends made

    pub end_fits : at + 1 ≤ length bytes
    end_fits =
        omega (arith, length-drop at bytes, head.at_max, end_there from to (graph order labels edges) (drop at bytes) (ap (judge to (graph order labels edges)) (sym told) ∙ sym made))

    pub end_keeps : labels' ≡ (after (graph order labels edges) (judge to (graph order labels edges) command)).labels
        → edges' ≡ (after (graph order labels edges) (judge to (graph order labels edges) command)).edges
        → graph order labels' edges' ≡ graph order labels edges
    end_keeps l e =
        let same = ap (after (graph order labels edges)) (sym made) in
        ap₂ (graph order) (l ∙ ap (λ (g : Graph). g.labels) same) (e ∙ ap (λ (g : Graph). g.edges) same)

  -- a fault
  pub fault_reads : (labels' edges' : List ℕ) (fault : Fault) → verdict_of (Err fault) labels' edges' ≡ judge to (graph order labels edges) command
      → whole from to bytes ≡ refuse_at (fault_number fault) at
  fault_reads labels' edges' fault made = by_verdict (faulty (fault_number fault)) made
