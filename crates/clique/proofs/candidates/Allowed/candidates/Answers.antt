use mathlib.Core.Path.{◌≡◌, sym, ap, ◌∙◌}
use native.Mathlib.Omega.{arith}
use Rattle.bitset.specs.Count.{size}
use Rattle.bitset.specs.Members.{member}
use Rattle.bitset.specs.Least.{least_member}
use Rattle.std.specs.Prelude.{Some}
use Rattle.bitset.proofs.LeastBelow.{least_below_member}
use Rattle.bitset.proofs.WithoutLeast.{size_without_least}
use Rattle.clique.proofs.Gathered.{gathered_none, gathered_added, gathered_skipped, gathered_all}
use Rattle.clique.proofs.LentCandidates.{free_fitting}
use Rattle.clique.proofs.candidates.Allowed.candidates.Goals as goal
use Rattle.clique.proofs.candidates.Allowed.candidates.Goals.{In-Some, else-edges_fit, then-edges_fit}

-- the vertex that was found
found : (c : In-Some) → least_member c.loop-v.rest ≡ Some c.in-Some.v
found c = sym c.least_member.ensures ∙ c.in-Some.is

pub loop-v-init : goal.loop-v-init
loop-v-init c = gathered_none _ _

pub edges_fit-requires : goal.edges_fit-requires
edges_fit-requires c =
    let p = c.requires in
    (p.0, (least_below_member 64 (member c.loop-v.rest) (found c)).below, p.1)

pub loop-v-smaller : goal.loop-v-smaller
loop-v-smaller c =
    omega (arith, ap size c.without_least-rest.ensures, size_without_least c.loop-v.rest c.in-Some.v (found (goal.at.loop-v-smaller c).In-Some))

pub loop-v-preserved : goal.loop-v-preserved
loop-v-preserved c =
    elim c.if-edges_fit.branch [ then-edges_fit w ↦ gathered_added _ _ c.loop-v.invariant (found (goal.at.loop-v-preserved c).In-Some) c.without_least-rest.ensures (sym c.edges_fit.ensures ∙ w.if-edges_fit.true) (w.fitting-is ∙ w.with-fitting.ensures) | else-edges_fit w ↦ gathered_skipped _ _ c.loop-v.invariant (found (goal.at.loop-v-preserved c).In-Some) c.without_least-rest.ensures (sym c.edges_fit.ensures ∙ w.if-edges_fit.false) w.fitting-is ]

pub returns : goal.returns
returns c =
    let a = c.args in
    gathered_all _ _ c.loop-v.invariant (sym c.least_member.ensures ∙ c.in_default.is)
    ∙ free_fitting a.self.now.problem a.self.now.sets.now a.path a.row.0 c.taken.ensures c.difference-rest.ensures
