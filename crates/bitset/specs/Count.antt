-- How many numbers pass a test, and the size of a set.
use Rattle.std.specs.Prelude.{Bool, cond, ℕ, zero, suc, ◌+◌}
use Rattle.bitset.specs.Members.{member}

-- how many of the numbers below k pass the test
unfoldable pub count_below : ℕ → (ℕ → Bool) → ℕ
count_below zero test = 0
count_below (suc k) test = count_below k test + cond (test k) 1 0

-- how many of the numbers below 64 are members of s
abbrev pub size : ℕ → ℕ
size s = count_below 64 (member s)
