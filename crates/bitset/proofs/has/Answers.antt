-- `bitset::has` meets its contract: digit i decides below 64, and no word has a member from 64 on. Assumes nothing.
use borrow.Author.Rules.{rules}
use mathlib.Core.Path.{sym}
use Prim.Native.Nat.{◌/◌, ◌^◌}
use lib.Bits.{and_mask}
use Rattle.bitset.specs.Members.{member}
use Rattle.bitset.proofs.Membership.{member_above}
use Rattle.bitset.proofs.has.Goals as goal

pub returns-then-i-lt64 : goal.returns-then-i-lt64
unfolding member
returns-then-i-lt64 c = let a = c.args in rw (and_mask (a.s / 2 ^ a.i) 1)

pub returns-else-i-lt64 : goal.returns-else-i-lt64
returns-else-i-lt64 c = sym (member_above 64 c.args.i (search rules) (search rules))
