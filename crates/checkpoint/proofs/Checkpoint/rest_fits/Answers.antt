use mathlib.Core.Path.{sym}
use mathlib.Core.Logic.{inl, inr}
use Rattle.bounded.proofs.AllBelow.{passed_none, passed_more, passed_all, false_all_below}
use Rattle.checkpoint.proofs.UnusedBytes.{rest_passes, path_nonzero, incumbent_nonzero}
use Rattle.checkpoint.proofs.Checkpoint.rest_fits.Goals as goal
use Rattle.checkpoint.proofs.Checkpoint.rest_fits.Goals.{else-depth-i-via-else-depth-i, else-depth-i-via-then-depth-i+else-path-i-ne0, else-holds, else-used-i-via-else-used-i, else-used-i-via-then-used-i+else-incumbent-i-ne0, then-holds}

pub loop-i-init : goal.loop-i-init
loop-i-init c =
    (elim c.if-holds.branch [ then-holds w ↦ rw w.if-holds.true w.used-is | else-holds w ↦ rw w.if-holds.false w.used-is ], passed_none _ _)

pub returns-then-path-i-ne0 : goal.returns-then-path-i-ne0
returns-then-path-i-ne0 c =
    let a = c.args in
    let nonzero = path_nonzero a.order a.self c.loop-i.i c.if-depth-i.true c.if-path-i-ne0.true in
    sym (false_all_below 64 _ _ c.loop-i-test.true nonzero)

pub returns-then-incumbent-i-ne0 : goal.returns-then-incumbent-i-ne0
returns-then-incumbent-i-ne0 c =
    let a = c.args in
    let used = c.if-holds.used in
    let nonzero = incumbent_nonzero a.order a.self c.loop-i.i used c.loop-i.invariant.0 c.if-used-i.true c.if-incumbent-i-ne0.true in
    sym (false_all_below 64 _ _ c.loop-i-test.true nonzero)

pub loop-i-preserved : goal.loop-i-preserved
loop-i-preserved c =
    let a = c.args in
    let here = rest_passes a.order a.self c.loop-i.i c.if-holds.used c.loop-i.invariant.0
    (elim c.else-depth-i.branch [ else-depth-i-via-then-depth-i+else-path-i-ne0 w ↦ inr w.if-path-i-ne0.false | else-depth-i-via-else-depth-i w ↦ inl w.if-depth-i.false ])
    (elim c.else-used-i.branch [ else-used-i-via-then-used-i+else-incumbent-i-ne0 w ↦ inr w.if-incumbent-i-ne0.false | else-used-i-via-else-used-i w ↦ inl w.if-used-i.false ]) in
    (c.loop-i.invariant.0, passed_more _ _ _ c.loop-i-test.true c.loop-i.invariant.1 here)

pub returns : goal.returns
returns c = sym (passed_all 64 _ _ c.loop-i-test.false c.loop-i.invariant.1)
