-- What a judged command does to the graph: the order stays within 64, and the command has as many bytes as it takes.
use mathlib.Core.Path.{◌≡◌, refl}
use mathlib.Core.Bool.{Bool, true, false, cond}
use mathlib.Core.List.{List}
use Prim.Native.Nat.{ℕ, ◌≤◌, max}
use native.Mathlib.Omega.{arith}
use lib.Dec.{leb, eqb}
use lib.ListN.{length, get_or}
use borrow.Author.Tests.{leb-false, leb-true}
use Rattle.answers.proofs.Choice.{cond_cases, either}
use Rattle.graph.specs.Graph.{Graph, edge}
use Rattle.graph_reader.specs.declared.Edition.{Edition}
use Rattle.graph_reader.specs.declared.commands.Command.{Command}
use Rattle.graph_reader.specs.declared.commands.Command.TheVariants.{Vertex, Edge, End, Truncated, Unknown}
use Rattle.graph_reader.specs.Commands.{decode, width}
use Rattle.graph_reader.specs.Editions.{vertex_code, vertex_width, vertex_label, greatest_label}
use Rattle.graph_reader.specs.Reading.{Verdict, grows, judge, after}
use Rattle.graph_reader.proofs.Fuel.{grows_width}

abbrev Within : Graph → Verdict → Type 0
Within g v = (after g v).order ≤ 64

-- The order stays within 64.
pub after_order : (to : Edition) (g : Graph) (c : Command) → g.order ≤ 64 → (after g (judge to g c)).order ≤ 64
unfolding judge
after_order to g (Vertex label) h =
    either (Within g) (eqb label 0) h (cond_cases (Within g) (leb 64 g.order) (λ e. h)
    (λ e. either (Within g) (leb label (greatest_label to)) (omega (arith, leb-false 64 g.order e)) h))
after_order to g (Edge a b label) h =
    either (Within g) (leb g.order (max a b)) h
    (either (Within g) (eqb label 0) h (either (Within g) (eqb (edge g a b) 0) h h))
after_order to g End h = h
after_order to g Truncated h = h
after_order to g Unknown h = h

-- A command that stands takes a byte at least, and its bytes are all there.
pub decode_fits : (from to : Edition) (g : Graph) (rest : List ℕ) (g' : Graph) → judge to g (decode from rest) ≡ grows g'
    → (1 ≤ width from (decode from rest)) × (width from (decode from rest) ≤ length rest)
unfolding judge
decode_fits from to g rest g' e = (
  grows_width from to g (decode from rest) g' e,
  go (eqb (length rest) 0) (eqb (get_or rest 0 0) 0) (eqb (get_or rest 0 0) (vertex_code from)) (leb (vertex_width from) (length rest)) (eqb (get_or rest 0 0) 2) (leb 4 (length rest)) refl refl e,
)
  where
    command : (v w x y z t : Bool) → Command
    command v w x y z t =
        cond v Truncated
        (cond w End (cond x (cond y (Vertex (vertex_label from rest)) Truncated) (cond z (cond t (Edge (get_or rest 1 0) (get_or rest 2 0) (get_or rest 3 0)) Truncated) Unknown)))

    go : (v w x y z t : Bool) → leb (vertex_width from) (length rest) ≡ y → leb 4 (length rest) ≡ t → judge to g (command v w x y z t) ≡ grows g'
        → width from (command v w x y z t) ≤ length rest
    go true w x y z t p q f = omega arith
    go false true x y z t p q f = let clash : ◌≡◌ {A = ℕ} 0 1 = cc in absurd (omega arith)
    go false false true true z t p q f = leb-true (vertex_width from) (length rest) p
    go false false true false z t p q f = omega arith
    go false false false y true true p q f = leb-true 4 (length rest) q
    go false false false y true false p q f = omega arith
    go false false false y false t p q f = omega arith
