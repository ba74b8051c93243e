-- `bitset::meet` meets its contract: the meet of two words is their `&`. Assumes nothing.
use borrow.Author.Rules.{rules}
use mathlib.Core.Path.{sym}
use Rattle.bitset.proofs.SetOf.{meet_of_and}
use Rattle.bitset.proofs.meet.Goals as goal

pub returns : goal.returns
returns c = sym (meet_of_and (search rules) (search rules))
