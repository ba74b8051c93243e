-- In sound graphs without an edge of a vertex with itself a vertex may lie where 01 lets it: 02, U4, changes nothing there.
use mathlib.Core.Path.{◌≡◌, sym, ◌∙◌}
use mathlib.Core.Bool.{true, and-true}
use Prim.Native.Nat.{ℕ}
use native.Mathlib.Decide.{dec_lt}
use native.Mathlib.Omega.{arith}
use lib.ListN.{get_or-eq_default}
use borrow.Author.Tests.{eq-eqb}
use Rattle.graph.specs.Graph.{Graph, Sound, place, edge}
use Rattle.problem.specs.Problem.{Problem, SoundProblem, compare_edges, allowed}
use Rattle.problem.specs.OwnEdges.{NoOwnEdges, WithoutOwnEdges, allowed_by_label}

-- Past the last vertex the diagonal is 0 anyway, and so past the table.
own_null : (g : Graph) → Sound g → NoOwnEdges g → (v : ℕ) → edge g v v ≡ 0
own_null g s none v =
    elim (dec_lt v g.order) [
      | yes h ↦ none v h
      | no h ↦ elim (dec_lt v 64) [
        | yes l ↦ s.within v v l l (omega arith)
        | no l ↦ get_or-eq_default g.edges 0 {n = place v v} (omega (arith, s.edges_length))
      ]
    ]

module _ (P : Problem) (s : SoundProblem P) (none : WithoutOwnEdges P) where
  -- Edges with themselves, all null, agree.
  pub own_agree : (v w : ℕ) → compare_edges P v v w w ≡ true
  own_agree v w = eq-eqb _ _ (own_null P.old s.old_sound none.0 v ∙ sym (own_null P.new s.new_sound none.1 w))

  -- A vertex may lie on another exactly where their labels agree.
  pub allowed_by_label_lem : (v w : ℕ) → allowed P v w ≡ allowed_by_label P v w
  unfolding allowed
  allowed_by_label_lem v w = rw (own_agree v w) (and-true (allowed_by_label P v w))
