-- The least number that passes a test, the least member of a set, and the set without it.
use Rattle.std.specs.Prelude.{◌≡◌, Bool, true, false, cond, ◌&&◌, not, ℕ, zero, suc, ◌<◌, ltb, eqb, Option, Some, None}
use Rattle.bitset.specs.Members.{member, set_of}

-- the first answer, or the other where the first is None
abbrev pub or_else : Option ℕ → Option ℕ → Option ℕ
or_else (Some i) other = Some i
or_else None other = other

-- the least of the numbers below k that pass the test
unfoldable pub least_below : ℕ → (ℕ → Bool) → Option ℕ
least_below zero test = None
least_below (suc k) test = or_else (least_below k test) (cond (test k) (Some k) None)

-- the least member of s below 64
abbrev pub least_member : ℕ → Option ℕ
least_member s = least_below 64 (member s)

-- the least member of s that is greater than i, and below 64
abbrev pub least_above : ℕ → ℕ → Option ℕ
least_above s i = least_below 64 (λ j. ltb i j && member s j)

-- the set without the member found
abbrev pub drop_found : ℕ → Option ℕ → ℕ
drop_found s (Some m) = set_of 64 (λ j. not (eqb j m) && member s j)
drop_found s None = 0

-- the numbers below 64 that are members of s, but not its least
abbrev pub without_least : ℕ → ℕ
without_least s = drop_found s (least_member s)

-- m is the least of the numbers below k that pass the test
pub record IsLeast (k : ℕ) (test : ℕ → Bool) (m : ℕ) : Type 0 where
  pub below : m < k
  pub passes : test m ≡ true
  pub first : (i : ℕ) → i < m → test i ≡ false

-- m is the least member of s that is greater than i, and below 64
pub record IsLeastAbove (s i m : ℕ) : Type 0 where
  pub above : i < m
  pub below : m < 64
  pub is_member : member s m ≡ true
  pub first : (j : ℕ) → i < j → j < m → member s j ≡ false
