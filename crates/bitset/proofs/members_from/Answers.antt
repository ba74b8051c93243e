-- `bitset::members_from` meets its contract: a shift down and up again clears the digits below i, and from 64 on there are no members. Assumes nothing.
use borrow.Author.Rules.{rules}
use mathlib.Core.Path.{sym}
use native.Mathlib.Nat.{mod-eq_of_lt}
use Rattle.bitset.proofs.MembersFrom.{cleared_lt, members_from_cleared, members_from_above}
use Rattle.bitset.proofs.members_from.Goals as goal

pub returns-then-i-lt64 : goal.returns-then-i-lt64
returns-then-i-lt64 c =
    let a = c.args in
    rw (mod-eq_of_lt (cleared_lt a.s 64 a.i (search rules))) (sym (members_from_cleared a.i (search rules)))

pub returns-else-i-lt64 : goal.returns-else-i-lt64
returns-else-i-lt64 c = sym (members_from_above _ _ (search rules))
