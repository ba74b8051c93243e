-- The definitions on single words, computed: the set of 0, 1, 3 and 63.
use mathlib.Core.Path.{◌≡◌, refl}
use mathlib.Core.Bool.{true, false, ◌||◌}
use Prim.Native.Nat.{ℕ}
use lib.Dec.{eqb}
use Rattle.bitset.specs.Members.{member, set_of, meet_of, insert, members_from}
use Rattle.bitset.specs.Count.{count_below, size}
use Rattle.bitset.specs.Least.{least_below, least_member, least_above, without_least}
use Rattle.std.specs.Prelude.{Some, None}

abbrev word : ℕ
word = 0x8000_0000_0000_000b

made : set_of 64 (λ i. eqb i 0 || eqb i 1 || eqb i 3 || eqb i 63) ≡ word
unfolding set_of
made = refl

in_it : member word 3 ≡ true
unfolding member
in_it = refl

not_in_it : member word 2 ≡ false
unfolding member
not_in_it = refl

four : size word ≡ 4
unfolding count_below member
four = refl

least : least_member word ≡ Some 0
unfolding least_below member
least = refl

above_one : least_above word 1 ≡ Some 3
unfolding least_below member
above_one = refl

above_three : least_above word 3 ≡ Some 63
unfolding least_below member
above_three = refl

above_last : least_above word 63 ≡ None
unfolding least_below member
above_last = refl

none : least_member 0 ≡ None
unfolding least_below member
none = refl

common : meet_of word 0x0e ≡ 0x0a
unfolding set_of member
common = refl

added : insert word 2 ≡ 0x8000_0000_0000_000f
unfolding set_of member
added = refl

too_large : insert word 64 ≡ word
unfolding set_of member
too_large = refl

from_three : members_from word 3 ≡ 0x8000_0000_0000_0008
unfolding set_of member
from_three = refl

from_last : members_from word 63 ≡ 0x8000_0000_0000_0000
unfolding set_of member
from_last = refl

from_above : members_from word 64 ≡ 0
unfolding set_of member
from_above = refl

without_zero : without_least word ≡ 0x8000_0000_0000_000a
unfolding set_of least_below member
without_zero = refl

without_only : without_least 0x8000_0000_0000_0000 ≡ 0
unfolding set_of least_below member
without_only = refl

without_none : without_least 0 ≡ 0
unfolding least_below member
without_none = refl
