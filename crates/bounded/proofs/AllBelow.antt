-- A test of all numbers below a bound passes exactly where each number does.
use mathlib.Core.Path.{◌≡◌, refl}
use mathlib.Core.Bool.{Bool, true, false, and-false, and-eq-true_iff}
use mathlib.Core.Logic.{⊎_elim}
use Prim.Native.Nat.{ℕ, zero, suc, ◌+◌, ◌≤◌, ◌<◌, zero-le}
use native.Mathlib.Nat.{not-suc-le-zero, le_of_suc-le-suc, le_refl, eq-or-lt_of_le}
use native.Mathlib.Omega.{arith}
use borrow.Author.Count.{below_none, below_more}
use Rattle.bounded.specs.Below.{all_below}

-- Where the test of all passes, it passes at each number below the bound.
pub all_below_true : (n : ℕ) (t : ℕ → Bool) → all_below n t ≡ true → (k : ℕ) → k < n → t k ≡ true
unfolding all_below
all_below_true zero t e k h = absurd (not-suc-le-zero h)
all_below_true (suc n) t e k h =
    let both = (and-eq-true_iff (all_below n t) (t n)).0 e in
    ⊎_elim (λ (q : k ≡ n). rw q both.1) (all_below_true n t both.0 k) (eq-or-lt_of_le (le_of_suc-le-suc h))

-- Where each number below the bound passes, the test of all does.
pub true_all_below : (n : ℕ) (t : ℕ → Bool) → ((k : ℕ) → k < n → t k ≡ true) → all_below n t ≡ true
unfolding all_below
true_all_below zero t each = refl
true_all_below (suc n) t each =
    (and-eq-true_iff (all_below n t) (t n)).1 (true_all_below n t (λ k h. each k (omega arith)), each n (le_refl (suc n)))

-- Where one number below the bound fails, the test of all does.
pub false_all_below : (n : ℕ) (t : ℕ → Bool) (k : ℕ) → k < n → t k ≡ false → all_below n t ≡ false
unfolding all_below
false_all_below zero t k h e = absurd (not-suc-le-zero h)
false_all_below (suc n) t k h e =
    ⊎_elim
    (λ (q : k ≡ n). rw (← q, e) (and-false (all_below k t)))
    (λ below. rw (false_all_below n t k below e))
    (eq-or-lt_of_le (le_of_suc-le-suc h))

-- The invariant of a loop that tests the numbers below n one after the other: those below i have passed.
abbrev pub PassedTo : ℕ → (ℕ → Bool) → ℕ → Type 0
PassedTo n t i = (i ≤ n) × ((k : ℕ) → k < i → t k ≡ true)

pub passed_none : (n : ℕ) (t : ℕ → Bool) → PassedTo n t 0
passed_none n t = (zero-le, below_none _)

pub passed_more : (n : ℕ) (t : ℕ → Bool) (i : ℕ) → i < n → PassedTo n t i → t i ≡ true → PassedTo n t (i + 1)
passed_more n t i h p e = (omega arith, below_more _ i p.1 e)

pub passed_all : (n : ℕ) (t : ℕ → Bool) (i : ℕ) → n ≤ i → PassedTo n t i → all_below n t ≡ true
passed_all n t i h p = true_all_below n t (λ k l. p.1 k (omega arith))
