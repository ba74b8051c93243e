use mathlib.Core.Path.{◌≡◌, sym, ap, ◌∙◌}
use mathlib.Core.Bool.{Bool, true, false, cond}
use mathlib.Core.List.{[], ◌∷◌}
use Prim.Native.Nat.{ℕ, ◌+◌, ◌≤◌}
use native.Mathlib.Omega.{arith}
use lib.ListN.{length}
use lib.Seq.{sets}
use Rattle.answers.proofs.Stores.{stored_none, stored_more, stored_room, stored_all}
use Rattle.graph.specs.Graph.{Graph, edge}
use Rattle.graph.specs.Lent.{lent_graph}
use Rattle.graph_writer.specs.Writing.{listed, edge_bytes, row_bytes}
use Rattle.graph_writer.proofs.writer.write_row.Goals as goal
use Rattle.graph_writer.proofs.writer.write_row.Goals.{Then-is_listed, else-is_listed, then-is_listed}

pub loop-b-init : goal.loop-b-init
loop-b-init c = stored_none _ _ _ _

-- a listed edge takes its command's bytes
listed_bytes : (g : Graph) (a b : ℕ) → listed g a b ≡ true → edge_bytes g a b ≡ 2 ∷ a ∷ b ∷ edge g a b ∷ []
listed_bytes g a b e = ap (λ (t : Bool). cond t (2 ∷ a ∷ b ∷ edge g a b ∷ []) []) e

-- any other takes none
unlisted_bytes : (g : Graph) (a b : ℕ) → listed g a b ≡ false → edge_bytes g a b ≡ []
unlisted_bytes g a b e = ap (λ (t : Bool). cond t (2 ∷ a ∷ b ∷ edge g a b ∷ []) []) e

-- where the turn's edge is listed, its 4 bytes have room
room : (c : Then-is_listed) → c.loop-b.at + 4 ≤ length c.loop-b.out
unfolding row_bytes
room c =
    let g = lent_graph c.args.graph in
    let bytes = listed_bytes g c.args.a c.loop-b.b (sym c.is_listed.ensures ∙ c.if-is_listed.true) in
    let whole = stored_room _ _ _ _ _ _ _ c.loop-b.invariant c.loop-b-test.true c.requires.3 in
    omega (arith, whole, ap length bytes)

pub put_edge-requires : goal.put_edge-requires
put_edge-requires c = room (goal.at.put_edge-requires c).Then-is_listed

pub overflow_add-at : goal.overflow_add-at
overflow_add-at c =
    let fits = room (goal.at.overflow_add-at c).Then-is_listed in
    omega (arith, c.loop-b.invariant.kept)

pub loop-b-preserved : goal.loop-b-preserved
loop-b-preserved c =
    let l = c.loop-b in
    let args = c.args in
    let g = lent_graph args.graph in
    let told = sym c.is_listed.ensures in
    let more = stored_more _ _ _ _ _ _ _ l.invariant c.loop-b-test.true c.if-is_listed.at c.if-is_listed.out in
    elim c.if-is_listed.branch [
      | then-is_listed w ↦ let bytes = listed_bytes g args.a l.b (told ∙ w.if-is_listed.true) in
          more (omega (arith, w.at-is, ap length bytes)) (w.out-is ∙ w.put_edge.ensures ∙ ap (sets l.out l.at) (sym bytes))
      | else-is_listed w ↦ let bytes = unlisted_bytes g args.a l.b (told ∙ w.if-is_listed.false) in
          more (omega (arith, w.at-is, ap length bytes)) (w.out-is ∙ ap (sets l.out l.at) (sym bytes))
    ]

pub returns : goal.returns
unfolding row_bytes
returns c =
    let all = stored_all _ _ _ _ _ _ _ c.loop-b.invariant c.loop-b-test.false in
    record { place = all.0; bytes = all.1 }
