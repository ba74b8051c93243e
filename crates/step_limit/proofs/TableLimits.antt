-- A table with the capped recurrence holds V, capped.
use mathlib.Core.Path.{◌≡◌}
use mathlib.Core.List.{List}
use Prim.Native.Nat.{ℕ, zero, suc, ◌+◌, ◌-◌, ◌*◌, ◌≤◌}
use native.Mathlib.Nat.{mul-le-mul_left, min-eq_left}
use native.Mathlib.Decide.{dec_le}
use native.Mathlib.Omega.{arith}
use Rattle.search_tree.specs.StepLimit.{step_limit}
use Rattle.step_limit.specs.StepLimits.{cap, capped, entry, CappedRecurrence}

-- A step of the recurrence that is capped in the end may be capped in its parts.
pub capped_sum : (m a b : ℕ) → capped (1 + m * capped a + capped b) ≡ capped (1 + m * a + b)
capped_sum zero a b = omega arith
capped_sum (suc m) a b = go (dec_le a cap)
  where
    go : Dec (a ≤ cap) → capped (1 + suc m * capped a + capped b) ≡ capped (1 + suc m * a + b)
    go (yes h) = rw (min-eq_left h) (omega arith)
    go (no nh) =
        let most : cap ≤ a = omega arith in
        let above : capped a ≡ cap = omega arith in
        rw above (omega (arith, mul-le-mul_left (suc m) most))

module _ (table : List ℕ) (recurrence : CappedRecurrence table) where
  pub table_limit : (m n : ℕ) → m ≤ 64 → n ≤ 64 → entry table m n ≡ capped (step_limit m n)
  unfolding step_limit
  table_limit m zero h l = recurrence.none_old m h
  table_limit m (suc n) h l =
      let next : suc n ≡ n + 1 = omega arith in
      rw (next, recurrence.one_more m n h (omega arith), table_limit (m - 1) n (omega arith) (omega arith), table_limit m n h (omega arith))
      (capped_sum m (step_limit (m - 1) n) (step_limit m n))
