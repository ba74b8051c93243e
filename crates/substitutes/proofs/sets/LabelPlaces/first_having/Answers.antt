-- `substitutes::sets::LabelPlaces::first_having` meets its contract: the least place found, or 64 where there is none.
-- Assumes nothing.
use mathlib.Core.Path.{ap, ◌∙◌}
use Rattle.bitset.specs.Least.{least_member}
use Rattle.substitutes.specs.Agreeing.{place_of}
use Rattle.substitutes.proofs.Having.{first_below}
use Rattle.substitutes.proofs.sets.LabelPlaces.first_having.Goals as goal

pub returns : goal.returns
returns c =
    let a = c.args in
    let is = c.unwrap_or.ensures ∙ ap place_of (c.least_member.ensures ∙ ap least_member c.having.ensures) in
    (is, rw is (first_below a.self.low.now a.self.high.now a.label))
