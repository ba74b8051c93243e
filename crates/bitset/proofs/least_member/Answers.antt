-- `bitset::least_member` meets its contract: 0 has no members, and the trailing zeros of any other word are its least. Assumes nothing.
use borrow.Author.Rules.{rules}
use mathlib.Core.Path.{sym}
use native.Mathlib.Omega.{arith}
use lib.Count.{trailing_le}
use Rattle.bitset.specs.Members.{member}
use Rattle.bitset.proofs.SetOf.{no_member}
use Rattle.bitset.proofs.LeastBelow.{least_below_none, least_below_least}
use Rattle.bitset.proofs.TrailingZeros.{trailing_least}
use Rattle.bitset.proofs.least_member.Goals as goal

pub overflow_cast-lowest : goal.overflow_cast-lowest
overflow_cast-lowest c = record { fits = omega (arith, trailing_le 64 c.args.s) }

pub returns-then-s-eq0 : goal.returns-then-s-eq0
returns-then-s-eq0 c = sym (least_below_none 64 (member c.args.s) ((no_member 64 (search rules)).0 c.if-s-eq0.true))

pub returns-else-s-eq0 : goal.returns-else-s-eq0
returns-else-s-eq0 c = sym (least_below_least 64 (member c.args.s) _ (trailing_least 64 (search rules) c.if-s-eq0.false))
