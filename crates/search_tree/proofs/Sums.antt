-- Tests of all numbers below a bound, and sums over them: where two agree, and where one sum is less than another.
use mathlib.Core.Path.{◌≡◌, refl, ap₂}
use mathlib.Core.Logic.{⊎_elim}
use mathlib.Core.Bool.{Bool, ◌&&◌}
use Prim.Native.Nat.{ℕ, zero, suc, ◌+◌, ◌≤◌, ◌<◌}
use native.Mathlib.Nat.{not-suc-le-zero, le_of_suc-le-suc, le_refl, eq-or-lt_of_le}
use native.Mathlib.Omega.{arith}
use Rattle.bounded.specs.Below.{all_below, sum_below}
use Rattle.bounded.proofs.Below.{sum_below_le}

-- Two tests that agree below the bound agree as tests of all.
pub all_below_agree : (n : ℕ) (s t : ℕ → Bool) → ((k : ℕ) → k < n → s k ≡ t k) → all_below n s ≡ all_below n t
unfolding all_below
all_below_agree zero s t each = refl
all_below_agree (suc n) s t each = ap₂ ◌&&◌ (all_below_agree n s t (λ k h. each k (omega arith))) (each n (le_refl (suc n)))

-- Two sums whose numbers agree below the bound agree.
pub sum_below_agree : (n : ℕ) (f g : ℕ → ℕ) → ((k : ℕ) → k < n → f k ≡ g k) → sum_below n f ≡ sum_below n g
unfolding sum_below
sum_below_agree zero f g each = refl
sum_below_agree (suc n) f g each = ap₂ ◌+◌ (sum_below_agree n f g (λ k h. each k (omega arith))) (each n (le_refl (suc n)))

-- Where no number of one sum exceeds the other's, and one falls short of it by c, the sum falls short by c.
pub sum_below_less : (n : ℕ) (f g : ℕ → ℕ) (k c : ℕ) → k < n → ((i : ℕ) → i < n → f i ≤ g i) → f k + c ≤ g k → sum_below n f + c ≤ sum_below n g
unfolding sum_below
sum_below_less zero f g k c h each short = absurd (not-suc-le-zero h)
sum_below_less (suc n) f g k c h each short =
    let last = each n (le_refl (suc n)) in
    let earlier : (i : ℕ) → i < n → f i ≤ g i = λ i l. each i (omega arith) in
    ⊎_elim
    (λ (q : k ≡ n). let at_last : f n + c ≤ g n = rw q at short in omega (arith, sum_below_le n f g earlier))
    (λ l. omega (arith, sum_below_less n f g k c l earlier short))
    (eq-or-lt_of_le (le_of_suc-le-suc h))
