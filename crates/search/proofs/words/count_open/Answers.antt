-- `search::words::count_open` meets its contract: the size of a level's set from a row on is the count of its rows from there.
-- Assumes nothing.
use mathlib.Core.Path.{ap, ◌∙◌}
use Rattle.bitset.specs.Count.{size}
use Rattle.bitset.proofs.CountBelow.{count_below_congr}
use Rattle.bitset.proofs.MembersFrom.{member_from}
use Rattle.search.specs.Words.{open_set}
use Rattle.search.proofs.words.count_open.Goals as goal

pub returns : goal.returns
returns c =
    let a = c.args in
    c.size.ensures ∙ ap size c.members_from.ensures ∙ count_below_congr 64 _ _ (λ r h. member_from (open_set a.pairs a.workspace.now) a.depth r h)
