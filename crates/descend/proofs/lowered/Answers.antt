-- `descend::lowered` meets its contract: what is held is counted on its own entries. Assumes nothing.
use mathlib.Core.Path.{◌≡◌, sym, ◌∙◌}
use Prim.Native.Nat.{◌+◌, ◌≤◌}
use native.Mathlib.Omega.{arith}
use borrow.Author.Rules.{rules}
use lib.ListN.{length}
use lib.Seq.{length-take-le}
use Rattle.search_tree.specs.Walk.{cutoff}
use Rattle.checkpoint.specs.Checkpoints.{state_of}
use Rattle.descend.proofs.LoweredCeiling.{lowered_own, lowered_min, held_cutoff, none_cutoff}
use Rattle.descend.proofs.lowered.Goals as goal
use Rattle.descend.proofs.lowered.Goals.{Joined-checkpoint, Start, else-checkpoint, then-checkpoint+else-minimum-mapping_size}

-- that its arrays have 64 bytes comes with the checkpoint's type
incumbent_long : (s : Start) → length s.args.checkpoint.incumbent ≡ 64
incumbent_long s = search rules

-- no more than the minimum is held
few : (c : Joined-checkpoint) → let a = c.args in cutoff a.checkpoint.minimum (state_of a.order a.checkpoint).incumbent ≤ a.checkpoint.minimum + 1
few c =
    let a = c.args in
    elim c.if-checkpoint.branch [ then-checkpoint+else-minimum-mapping_size w ↦ omega (arith, held_cutoff a.order a.checkpoint w.if-checkpoint.true, w.mapping_size.ensures, w.if-minimum-mapping_size.false) | else-checkpoint w ↦ omega (arith, none_cutoff a.order a.checkpoint w.if-checkpoint.false) ]

pub slice_bounds-incumbent-end : goal.slice_bounds-incumbent-end
slice_bounds-incumbent-end c = omega (arith, incumbent_long (goal.at.slice_bounds-incumbent-end c).Start, c.requires)

pub slice_bounds-mapping_size-end : goal.slice_bounds-mapping_size-end
slice_bounds-mapping_size-end c =
    sym (length-take-le _ _ (omega (arith, incumbent_long (goal.at.slice_bounds-mapping_size-end c).Start, c.requires)))

pub returns-then-minimum-mapping_size : goal.returns-then-minimum-mapping_size
returns-then-minimum-mapping_size c =
    let a = c.args in
    let held = held_cutoff a.order a.checkpoint c.if-checkpoint.true in
    sym (lowered_own a.checkpoint.minimum (state_of a.order a.checkpoint).incumbent a.top (omega (arith, held, c.mapping_size.ensures, c.if-minimum-mapping_size.true)))

pub returns : goal.returns
returns c =
    let a = c.args in
    c.min.ensures ∙ sym (lowered_min a.checkpoint.minimum (state_of a.order a.checkpoint).incumbent a.top (few (goal.at.returns c).Joined-checkpoint))
