-- `descent_replies::descend_apart` meets its contract: what it uses of its own words has the words needed exactly where the lent words have
-- (`DescentKept`). Assumes nothing.
use mathlib.Core.Path.{sym}
use Rattle.problem.specs.Lent.{lent}
use Rattle.replies.proofs.CallKept.{own_length, own_test}
use Rattle.descent_replies.proofs.DescentKept.{descended_apart}
use Rattle.descent_replies.proofs.descend_apart.Goals as goal

pub slice_bounds-descend-end : goal.slice_bounds-descend-end
slice_bounds-descend-end c = sym (own_length _ _ c.words_used-used.ensures)

pub returns : goal.returns
returns c =
    let a = c.args in
    descended_apart a.connected (lent a.problem) a.floor a.checkpoint a.budget c.descend.result _ _ c.descend.ensures
    _ (own_test _ _ c.words_used-used.ensures)
