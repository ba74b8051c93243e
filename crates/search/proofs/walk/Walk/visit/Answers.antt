-- `search::walk::Walk::visit` meets its contract: the node is left, a last one held if it may be and left, or its first child is next, and the
-- bound is made where the walk arrives (`VisitTurn`).
-- Assumes nothing.
use mathlib.Core.Path.{◌≡◌, sym, ◌∙◌}
use mathlib.Core.Logic.{inl, inr}
use Prim.Native.Nat.{◌+◌}
use native.Mathlib.Omega.{arith}
use lib.ListN.{take}
use Rattle.search.specs.Words.{open_rows}
use Rattle.search.proofs.NodeWords.{pairs_max}
use Rattle.search.proofs.Trails.{trail_kept}
use Rattle.search.proofs.VisitTurn.{resumes_in_bounds, pairs_small, inner, own_exact, admits_by_neighbours, Moves, left, held, down, Led, open_bound, moved_in_bounds, visits_moved}
use Rattle.search.proofs.walk.Walk.visit.Goals as goal
use Rattle.search.proofs.walk.Walk.visit.Goals.{Else-depth-tables, Joined-self-cutoff, else-self-cutoff+else-depth-tables, else-self-cutoff+then-depth-tables, then-self-cutoff, then-admitted, else-admitted}

pub retreat-place-requires : goal.retreat-place-requires
retreat-place-requires c =
    let b = resumes_in_bounds c.requires.resumes in
    (c.args.tables.numbers_are, b.path_length, c.requires.goes_on.2.places, b.room, pairs_small b)

pub admitted-requires : goal.admitted-requires
admitted-requires c = (c.requires.goes_on.2.places, omega (arith, pairs_small (resumes_in_bounds c.requires.resumes)))

pub overflow_add-cutoff : goal.overflow_add-cutoff
overflow_add-cutoff c = omega (arith, pairs_small (resumes_in_bounds c.requires.resumes))

pub retreat-requires : goal.retreat-requires
retreat-requires c =
    let b = resumes_in_bounds c.requires.resumes in
    (c.args.tables.numbers_are, b.path_length, c.requires.goes_on.2.places, b.room, pairs_small b)

-- the bound of a node that is not last counts the open rows
bound_is : (c : Else-depth-tables) → (let a = c.args in
    a.self.bound ≡ a.self.pairs + open_rows a.self.checkpoint.depth a.self.pairs a.workspace.now)
bound_is c = open_bound c.requires.resumes c.if-self-cutoff.false c.if-depth-tables.false

pub overflow_sub-self : goal.overflow_sub-self
overflow_sub-self c = omega (arith, bound_is (goal.at.overflow_sub-self c).Else-depth-tables)

pub descend-requires : goal.descend-requires
descend-requires c =
    let b = resumes_in_bounds c.requires.resumes in
    let pre = c.requires in record {
      numbers = (c.args.tables.numbers_are, b.path_length, pre.goes_on.2.places, b.room);
      depth_bound = (
        inner pre.resumes c.if-self-cutoff.false c.if-depth-tables.false,
        pairs_max b,
        omega (arith, bound_is (goal.at.descend-requires c).Else-depth-tables),
        pre.resumes.ready.shape.path_rest,
      );
    }

-- the walk moved
moves : (c : Joined-self-cutoff)
    → (let a = c.args in
    Moves a.tables.connected a.tables.order a.tables.edges.now a.self a.workspace.now c.if-self-cutoff.holds c.if-self-cutoff.incumbent c.if-self-cutoff.cutoff c.if-self-cutoff.path c.if-self-cutoff.place)
moves c =
    let trail = c.requires.goes_on.2 in
    elim c.if-self-cutoff.branch [
      | then-self-cutoff w ↦ rw (w.holds-is, w.incumbent-is, w.cutoff-is, w.path-is, w.place-is)
          (left (inl w.if-self-cutoff.true) (λ P sound node. w.retreat-place.ensures.sibling P _ sound node trail))
      | else-self-cutoff+then-depth-tables w ↦
          let b = resumes_in_bounds c.requires.resumes in
          let test = sym (admits_by_neighbours c.args.tables.connected c.args.tables.neighbours_are (take c.args.self.checkpoint.depth c.args.self.checkpoint.path)) ∙ sym (w.admitted.ensures _ _ _ b.path_length b.depth_max b.pairs_are trail) in
          rw (w.holds-is, w.incumbent-is, w.cutoff-is, w.path-is, w.place-is)
          (elim w.if-admitted.branch [
            | then-admitted may ↦ rw (may.holds-is, may.incumbent-is, may.cutoff-is)
                (held w.if-self-cutoff.false w.if-depth-tables.true (test ∙ may.if-admitted.true) (λ P sound node. w.retreat.ensures.sibling P _ sound node trail))
            | else-admitted may ↦ rw (may.holds-is, may.incumbent-is, may.cutoff-is)
                (left (inr (w.if-self-cutoff.false, w.if-depth-tables.true, test ∙ may.if-admitted.false)) (λ P sound node. w.retreat.ensures.sibling P _ sound node trail))
          ])
      | else-self-cutoff+else-depth-tables w ↦ rw (w.holds-is, w.incumbent-is, w.cutoff-is, w.path-is, w.place-is)
          (down w.if-self-cutoff.false w.if-depth-tables.false w.descend.ensures.child)
    ]

-- and what is known of where it went
led : (c : Joined-self-cutoff) → Led c.if-self-cutoff.path c.if-self-cutoff.place c.if-self-cutoff.trail c.args.workspace.now
led c =
    let b = resumes_in_bounds c.requires.resumes in
    let trail = c.requires.goes_on.2 in
    elim c.if-self-cutoff.branch [
      | then-self-cutoff w ↦
          let next = w.retreat-place.ensures.trail _ b.depth_max b.pairs_are trail in
          rw (w.trail-is, w.path-is, w.place-is) (record { trail = next.0; open_is = next.1; last_is = w.retreat-place.ensures.last })
      | else-self-cutoff+then-depth-tables w ↦
          let next = w.retreat.ensures.trail _ b.depth_max b.pairs_are trail in
          rw (w.trail-is, w.path-is, w.place-is) (record { trail = next.0; open_is = next.1; last_is = w.retreat.ensures.last })
      | else-self-cutoff+else-depth-tables w ↦
          let made = w.descend.ensures in
          rw (w.trail-is, w.path-is, w.place-is) (record {
            trail = made.trail b.pairs_are trail;
            open_is = made.later _ (own_exact c.requires.resumes w.if-self-cutoff.false w.if-depth-tables.false);
            last_is = made.last;
          })
    ]

pub upper_bound-bound-requires : goal.upper_bound-bound-requires
upper_bound-bound-requires c =
    let here = (goal.at.upper_bound-bound-requires c).Joined-self-cutoff in
    let l = led here in
    record { path = c.if-self-cutoff.path; bounds = moved_in_bounds c.requires.resumes (moves here); last_is = l.last_is; open_is = l.open_is }

pub returns : goal.returns
returns c =
    let here = (goal.at.returns c).Joined-self-cutoff in
    let made = c.upper_bound-bound.ensures in
    let l = led here in
    let b = moved_in_bounds c.requires.resumes (moves here) in record {
      visited = visits_moved c.args.self c.requires.goes_on.0 c.upper_bound-bound.auto.workspace
          ((λ P setting node. made.bounded P _ setting node l.last_is), made.small) (moves here);
      trail = trail_kept (omega (arith, b.path_length, b.depth_max)) (λ p h. made.kept p (omega (arith, b.pairs_are))) l.trail;
    }
