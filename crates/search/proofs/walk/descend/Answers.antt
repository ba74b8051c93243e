-- `search::walk::descend` meets its contract: the place takes the least member of the next row's word, or 255 (`FirstChild`), and a pair is added
-- to the trail (`LastPairs`). Assumes nothing.
use mathlib.Core.Path.{◌≡◌, refl, sym, ap, ◌∙◌}
use Prim.Native.Nat.{◌+◌, ◌-◌}
use native.Mathlib.Omega.{arith}
use Rattle.bitset.specs.Least.{least_member}
use Rattle.std.specs.Prelude.{Some, None}
use Rattle.search.specs.Words.{level_word, open_rows}
use Rattle.search.proofs.FirstChild.{child_taken, child_left_out}
use Rattle.search.proofs.LastPairs.{open_after, open_out, trail_down, trail_down_out, full_word, empty_word}
use Rattle.search.proofs.MeetTurn.{row_inside}
use Rattle.search.proofs.MovedPath.{moved_last_is}
use Rattle.search.proofs.Trails.{open_taken, open_passed}
use Rattle.search.proofs.walk.descend.Goals as goal
use Rattle.search.proofs.walk.descend.Goals.{In-Some}

-- the member that was found
taken : (c : In-Some) → least_member (level_word c.args.workspace.now c.args.pairs c.args.depth) ≡ Some c.in-Some.v
taken c = ap least_member (sym c.level_word.ensures) ∙ sym c.least_member.ensures ∙ c.in-Some.is

-- the row is one of the open rows
later_is : (c : In-Some) → (let a = c.args in a.rows ≡ open_rows (a.depth + 1) a.pairs a.workspace.now + 1)
later_is c =
    let a = c.args in
    let taken = ap least_member (sym c.level_word.ensures) ∙ sym c.least_member.ensures ∙ c.in-Some.is in
    c.requires.depth_bound.2 ∙ open_taken a.workspace.now a.pairs a.depth c.requires.depth_bound.0 (full_word taken)

pub overflow_sub-later : goal.overflow_sub-later
overflow_sub-later c = omega (arith, later_is c)

pub returns-in-Some : goal.returns-in-Some
returns-in-Some c =
    let a = c.args in
    let here = (goal.at.returns-in-Some c).In-Some in
    let found = taken here in
    let small = row_inside _ _ found in
    let later = later_is here in
    let level : a.pairs + 1 - 1 ≡ a.pairs = omega arith in
    let moved = c.move_down.ensures in record {
      child = λ P sound inner node words. child_taken sound inner node words found moved;
      trail = λ count trail.
          trail_down c.requires.numbers.1 c.requires.depth_bound.0 count trail small moved (record { row_is = refl; value_is = refl; later_is = omega (arith, later) });
      later = λ n exact. open_after (omega (arith, small)) (rw level (omega (arith, later)));
      last = moved_last_is moved (omega (arith, c.requires.depth_bound.0)) (λ e. absurd (omega arith));
    }

pub returns-in-None : goal.returns-in-None
returns-in-None c =
    let a = c.args in
    let known = c.level_word in
    let none : least_member (level_word a.workspace.now a.pairs a.depth) ≡ None = ap least_member (sym known.ensures) ∙ sym c.least_member.ensures ∙ c.in-None.is in
    let empty : level_word a.workspace.now a.pairs a.depth ≡ 0 = empty_word (rw known.ensures at known.type_inv) none in
    let moved = c.move_down-in-None.ensures in record {
      child = λ P sound inner node words. child_left_out sound inner node words none moved;
      trail = λ count trail. trail_down_out c.requires.numbers.1 c.requires.depth_bound.0 count trail moved;
      later = λ n exact. open_out (c.requires.depth_bound.2 ∙ open_passed a.workspace.now a.pairs a.depth exact empty);
      last = moved_last_is moved (omega (arith, c.requires.depth_bound.0)) (λ e. absurd (omega arith));
    }
