-- A test, a sum and a run of bytes over all numbers below a bound, rising: the loops of the other definitions.
use Rattle.std.specs.Prelude.{Bool, true, false, ◌&&◌, ◌||◌, List, [], ◌++◌, ℕ, zero, suc, ◌+◌}

-- every k below n passes the test
unfoldable pub all_below : ℕ → (ℕ → Bool) → Bool
all_below zero test = true
all_below (suc n) test = all_below n test && test n

-- some k below n passes the test
unfoldable pub some_below : ℕ → (ℕ → Bool) → Bool
some_below zero test = false
some_below (suc n) test = some_below n test || test n

unfoldable pub sum_below : ℕ → (ℕ → ℕ) → ℕ
sum_below zero f = 0
sum_below (suc n) f = sum_below n f + f n

-- f 0, f 1, .. f (n - 1), one after the other
unfoldable pub run_below : ℕ → (ℕ → List ℕ) → List ℕ
run_below zero f = []
run_below (suc n) f = run_below n f ++ f n
