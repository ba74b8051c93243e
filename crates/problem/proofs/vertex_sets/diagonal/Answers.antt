use mathlib.Core.Path.{refl, sym, ◌∙◌}
use native.Mathlib.Omega.{arith}
use lib.ListN.{get_or-replicate, get_or-eq_default}
use borrow.Author.Rules.{rules}
use Rattle.bounded.proofs.Settled.{settled_none, settled_more, settled_skip}
use Rattle.graph.specs.Graph.{place}
use Rattle.problem.proofs.vertex_sets.diagonal.Goals as goal
use Rattle.problem.proofs.vertex_sets.diagonal.Goals.{else-at-edges, then-at-edges}

pub loop-v-init : goal.loop-v-init
loop-v-init c = (search rules, settled_none _ _)

-- a byte is no greater as a label
pub overflow_cast-own : goal.overflow_cast-own
overflow_cast-own c =
    let v = c.loop-v.v in
    omega (arith, c.shared_slice_known-1.given (place v v))

pub loop-v-preserved : goal.loop-v-preserved
loop-v-preserved c =
    let l = c.loop-v in (
      search rules,
      elim c.if-at-edges.branch [
        | then-at-edges w ↦ rw w.own-is (settled_more _ _ l.invariant.1 c.loop-v-test.true refl)
        | else-at-edges w ↦ rw w.own-is
            (settled_skip _ _ l.invariant.1
            (get_or-replicate 64 l.v 0 0 c.loop-v-test.true ∙ sym (get_or-eq_default c.args.edges.now 0 {n = place l.v l.v} w.if-at-edges.false)))
      ],
    )

pub returns : goal.returns
returns c =
    let s = c.loop-v.invariant.1 in
    record { entries = s.entries; edge = λ v h. s.settled v (omega (arith, h, c.loop-v-test.false)) }
