-- `bitset::without_least` meets its contract: 0 has no least member, and the `&` with the word less 1 clears that of any other word. Assumes nothing.
use borrow.Author.Rules.{rules}
use mathlib.Core.Path.{sym}
use Rattle.bitset.specs.Members.{member}
use Rattle.bitset.proofs.SetOf.{no_member}
use Rattle.bitset.proofs.LeastBelow.{least_below_none, least_below_least}
use Rattle.bitset.proofs.TrailingZeros.{trailing_least}
use Rattle.bitset.proofs.WithoutLeast.{without_least_and}
use Rattle.bitset.proofs.without_least.Goals as goal

pub returns-then-s-eq0 : goal.returns-then-s-eq0
returns-then-s-eq0 c =
    rw (least_below_none 64 (member c.args.s) ((no_member 64 (search rules)).0 c.if-s-eq0.true))

pub returns-else-s-eq0 : goal.returns-else-s-eq0
returns-else-s-eq0 c =
    sym (without_least_and _ (search rules) (least_below_least 64 (member c.args.s) _ (trailing_least 64 (search rules) c.if-s-eq0.false)))
