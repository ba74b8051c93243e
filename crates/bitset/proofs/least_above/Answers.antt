-- `bitset::least_above` meets its contract: the members above i are those of the word shifted past i, and from 63 on there are none. Assumes nothing.
use borrow.Author.Rules.{rules}
use mathlib.Core.Path.{sym}
use Prim.Native.Nat.{◌+◌, ◌/◌, ◌^◌}
use native.Mathlib.Omega.{arith}
use lib.Count.{trailing_le}
use Rattle.bitset.proofs.LeastBelow.{least_above_none, least_above_least}
use Rattle.bitset.proofs.TrailingZeros.{shifted_none, shifted_least}
use Rattle.bitset.proofs.least_above.Goals as goal

pub returns-then-i-ge63 : goal.returns-then-i-ge63
returns-then-i-ge63 c = sym (least_above_none _ _ (λ j h l. absurd (omega arith)))

pub overflow_cast-lowest : goal.overflow_cast-lowest
overflow_cast-lowest c = let a = c.args in record { fits = omega (arith, trailing_le 64 (a.s / 2 ^ (a.i + 1))) }

pub overflow_add-found : goal.overflow_add-found
overflow_add-found c = let a = c.args in record { fits = omega (arith, trailing_le 64 (a.s / 2 ^ (a.i + 1))) }

pub returns-then-rest-eq0 : goal.returns-then-rest-eq0
returns-then-rest-eq0 c = let a = c.args in sym (least_above_none a.s a.i (λ j h l. shifted_none a.s a.i c.if-rest-eq0.true j h))

pub returns-else-rest-eq0 : goal.returns-else-rest-eq0
returns-else-rest-eq0 c = let a = c.args in sym (least_above_least a.s a.i _ (shifted_least a.i (search rules) c.if-rest-eq0.false))
