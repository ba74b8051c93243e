-- `search::walk::retreat` meets its contract: the last pair is read from the trail, and takes its next choice (`LastPairs`, `PairMoves`).
-- Assumes nothing.
use mathlib.Core.Path.{◌≡◌, refl, sym, ap, ◌∙◌}
use Prim.Native.Nat.{ℕ, ◌-◌}
use native.Mathlib.Omega.{arith}
use lib.ListN.{get_or}
use Rattle.bitset.specs.Least.{least_above}
use Rattle.search.proofs.LastPairs.{none_found, open_out}
use Rattle.search.proofs.MeetTurn.{row_above_inside}
use Rattle.search.proofs.MovedPath.{moved_last_is}
use Rattle.search.proofs.NextSibling.{retreat_ends}
use Rattle.search.proofs.PairMoves.{next_value, trail_moved, trail_moved_out, sibling_moved, sibling_moved_out}
use Rattle.search.proofs.Trails.{trail_none}
use Rattle.search.proofs.walk.retreat.Goals as goal
use Rattle.search.proofs.walk.retreat.Goals.{After-least_above}

-- what was found above the last pair's value
next_is : (c : After-least_above)
    → next_value c.args.workspace.now c.args.pairs (get_or c.args.trail.now (c.args.pairs - 1) c.index-trail-before.result) ≡ c.least_above.result
next_is c =
    ap (λ (w : ℕ). least_above w (get_or c.args.trail.now (c.args.pairs - 1) c.index-trail-before.result).value.0) (sym c.level_word-word.ensures) ∙ sym c.least_above.ensures

pub returns-then-pairs-eq0 : goal.returns-then-pairs-eq0
returns-then-pairs-eq0 c =
    let moved = c.move_back.ensures in
    let none = c.if-pairs-eq0.true in record {
      sibling = λ P depth sound node trail.
          retreat_ends sound node (none_found node.path_length (omega (arith, node.depth_max, sound.old_sound.order_max)) node.pairs_are trail none) moved;
      trail = λ depth deep count trail. (trail_none _ _ _ c.requires.2, open_out c.count_open.ensures);
      last = moved_last_is moved (omega arith) (λ e. refl);
    }

pub returns-in-Some : goal.returns-in-Some
returns-in-Some c =
    let next = next_is (goal.at.returns-in-Some c).After-least_above ∙ c.in-Some.is in
    let some = c.if-pairs-eq0.false in
    let pair = get_or c.args.trail.now (c.args.pairs - 1) c.index-trail-before.result in
    let moved = c.move_back-in-Some.ensures in record {
      sibling = λ P depth sound node trail. sibling_moved sound node trail (omega arith) _ next moved;
      trail = λ depth deep count trail.
          trail_moved c.requires.1 deep count trail (omega arith) _ c.index-trail-before-in-Some.result (row_above_inside _ _ _ next) moved (record { row_is = refl; value_is = refl; later_is = refl });
      last = moved_last_is moved (omega (arith, pair.inside)) (λ e. absurd (omega arith));
    }

pub returns-in-None : goal.returns-in-None
returns-in-None c =
    let next = next_is (goal.at.returns-in-None c).After-least_above ∙ c.in-None.is in
    let some = c.if-pairs-eq0.false in
    let pair = get_or c.args.trail.now (c.args.pairs - 1) c.index-trail-before.result in
    let moved = c.move_back-in-None.ensures in record {
      sibling = λ P depth sound node trail. sibling_moved_out sound node trail (omega arith) _ next moved;
      trail = λ depth deep count trail. trail_moved_out c.requires.1 deep count trail (omega arith) _ moved;
      last = moved_last_is moved (omega (arith, pair.inside)) (λ e. absurd (omega arith));
    }
