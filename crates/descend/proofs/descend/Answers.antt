use mathlib.Core.Path.{◌≡◌, sym, ◌∙◌}
use mathlib.Core.Bool.{true}
use Prim.Native.Nat.{◌+◌, ◌≤◌, ◌<◌, ◌^◌}
use native.Mathlib.Omega.{arith}
use borrow.Author.Rules.{rules}
use Rattle.descend.proofs.OneSearch.{Exhausted, exhausted_facts}
use Rattle.descend.proofs.LoopTurn.{fresh_minimum, going_all, turn_steps, turn_refused, turn_accepted, turn_minimum, turn_ends, turn_renews}
use Rattle.descend.proofs.descend.Goals as goal
use Rattle.descend.proofs.descend.Goals.{After-search-searched, Else-not-is_exhausted}

-- the steps of a turn's search
steps : (c : After-search-searched) → let before = c.loop-top.at.steps in let after = c.search-searched.result.checkpoint.steps in
    (before ≤ after) × (after ≤ before + c.loop-top.left)
steps c = turn_steps c.loop-top.invariant c.search-searched.result _ c.search-searched.ensures

-- a turn that goes on: its search is exhausted, so the minimum is above the floor
goes_on : (c : Else-not-is_exhausted) → c.is_exhausted.result ≡ true
goes_on c = c.if-not-is_exhausted.false

above : (c : Else-not-is_exhausted)
    → let reached = c.search-searched.result.checkpoint in
    Exhausted c.args.floor reached.minimum reached.finished reached.holds
above c =
    let goes_on : c.is_exhausted.result ≡ true = c.if-not-is_exhausted.false in
    exhausted_facts _ _ _ _ (sym c.is_exhausted.ensures ∙ goes_on)

pub loop-top-init : goal.loop-top-init
loop-top-init c =
    let fits : c.args.budget < 2 ^ 64 = omega (arith, c.ranges.budget) in
    going_all _ _ _ _ _ _ fits (search rules)

pub overflow_sub-made : goal.overflow_sub-made
overflow_sub-made c = (steps (goal.at.overflow_sub-made c).After-search-searched).0

pub overflow_add-visits : goal.overflow_add-visits
overflow_add-visits c =
    let going = c.loop-top.invariant in
    omega (arith, steps (goal.at.overflow_add-visits c).After-search-searched, going.counted, going.fits)

pub lowered-requires : goal.lowered-requires
lowered-requires c =
    (turn_accepted c.loop-top.invariant c.search-searched.result _ c.search-searched.ensures _ c.in-Ok.is).sound.old_sound.order_max

pub shape_of-workspace-then-not-is_exhausted : goal.shape_of-workspace-then-not-is_exhausted
shape_of-workspace-then-not-is_exhausted c =
    omega (arith, c.search-searched.auto.workspace, c.loop-top.invariant.kept)

pub returns-then-not-is_exhausted : goal.returns-then-not-is_exhausted
returns-then-not-is_exhausted c =
    let off = sym c.is_exhausted.ensures ∙ c.if-not-is_exhausted.true in
    turn_ends c.loop-top.invariant c.search-searched.result _ c.search-searched.ensures _ c.in-Ok.is off _ c.lowered.ensures

pub overflow_sub-reached : goal.overflow_sub-reached
overflow_sub-reached c = omega (arith, (above (goal.at.overflow_sub-reached c).Else-not-is_exhausted).above)

pub overflow_sub-left : goal.overflow_sub-left
overflow_sub-left c = omega (arith, steps (goal.at.overflow_sub-left c).After-search-searched)

pub loop-top-smaller : goal.loop-top-smaller
loop-top-smaller c =
    let same = turn_minimum c.loop-top.invariant c.search-searched.result _ c.search-searched.ensures _ c.in-Ok.is in
    omega (arith, fresh_minimum _ c.fresh-at.ensures, same, (above (goal.at.loop-top-smaller c).Else-not-is_exhausted).above)

pub loop-top-preserved : goal.loop-top-preserved
loop-top-preserved c =
    rw c.fresh-at.ensures
    (turn_renews c.loop-top.invariant c.search-searched.result _ c.search-searched.ensures _ c.in-Ok.is
    (sym c.is_exhausted.ensures ∙ goes_on (goal.at.loop-top-preserved c).Else-not-is_exhausted))

pub shape_of-workspace-in-Err : goal.shape_of-workspace-in-Err
shape_of-workspace-in-Err c =
    omega (arith, c.search-searched.auto.workspace, c.loop-top.invariant.kept)

pub returns-in-Err : goal.returns-in-Err
returns-in-Err c =
    turn_refused c.loop-top.invariant c.search-searched.result _ c.search-searched.ensures _ c.in-Err.is
