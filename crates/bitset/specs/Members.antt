-- A set of numbers as one number: i is a member where binary digit i is set.
use Rattle.std.specs.Prelude.{Bool, cond, not, ◌&&◌, ◌||◌, ℕ, zero, suc, ◌+◌, ◌/◌, ◌%◌, ◌^◌, eqb, leb}

-- i is a member of s
unfoldable pub member : ℕ → ℕ → Bool
member s i = eqb (s / 2 ^ i % 2) 1

-- the set of the numbers below k that pass the test
unfoldable pub set_of : ℕ → (ℕ → Bool) → ℕ
set_of zero test = 0
set_of (suc k) test = set_of k test + cond (test k) (2 ^ k) 0

-- the numbers below 64 that are members of both
abbrev pub meet_of : ℕ → ℕ → ℕ
meet_of a b = set_of 64 (λ i. member a i && member b i)

-- the numbers below 64 that are members of a or of b
abbrev pub union_of : ℕ → ℕ → ℕ
union_of a b = set_of 64 (λ i. member a i || member b i)

-- the numbers below 64 that are members of a and not of b
abbrev pub difference_of : ℕ → ℕ → ℕ
difference_of a b = set_of 64 (λ i. member a i && not (member b i))

-- the numbers below 64 that are i or members of s
abbrev pub insert : ℕ → ℕ → ℕ
insert s i = set_of 64 (λ j. eqb j i || member s j)

-- the numbers below 64 that are members of s and at least i
abbrev pub members_from : ℕ → ℕ → ℕ
members_from s i = set_of 64 (λ j. leb i j && member s j)
