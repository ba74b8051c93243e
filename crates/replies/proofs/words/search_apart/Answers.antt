-- `replies::words::search_apart` meets its contract: what it uses of its own words has the words needed exactly where the lent words have
-- (`CallKept`). Assumes nothing.
use mathlib.Core.Path.{sym}
use Rattle.problem.specs.Lent.{lent}
use Rattle.replies.proofs.CallKept.{own_length, own_test, found_apart}
use Rattle.replies.proofs.words.search_apart.Goals as goal

pub slice_bounds-search-end : goal.slice_bounds-search-end
slice_bounds-search-end c = sym (own_length _ _ c.words_used-used.ensures)

pub returns : goal.returns
returns c =
    let a = c.args in
    found_apart a.connected (lent a.problem) a.checkpoint a.budget c.search.result _ _ c.search.ensures
    _ (own_test _ _ c.words_used-used.ensures)
