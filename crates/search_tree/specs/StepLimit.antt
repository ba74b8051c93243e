-- How many visits a walk of n rows and m values can take at most: V(m, n) of document 02, U5.
use Rattle.std.specs.Prelude.{ℕ, zero, suc, ◌+◌, ◌-◌, ◌*◌}

-- V(m, 0) = 1, V(m, n) = 1 + m × V(m - 1, n - 1) + V(m, n - 1); the middle term is 0 at m = 0
unfoldable pub step_limit : ℕ → ℕ → ℕ
step_limit m zero = 1
step_limit m (suc n) = 1 + m * step_limit (m - 1) n + step_limit m n
