-- Some number below a bound passes a test exactly where one can be named; and what the test has in common for all numbers, or of one alone.
use mathlib.Core.Path.{◌≡◌, refl, sym, ap₂, ◌∙◌}
use mathlib.Core.Bool.{Bool, true, false, true≢false, or-true, or-false, and-true, and-false, and-or_distrib_left, ◌&&◌, ◌||◌}
use mathlib.Core.Logic.{⊎_elim}
use Prim.Native.Nat.{ℕ, zero, suc, ◌+◌, ◌<◌}
use native.Mathlib.Nat.{not-suc-le-zero, le_of_suc-le-suc, le_refl, eq-or-lt_of_le}
use native.Mathlib.Numerals.{add-one}
use native.Mathlib.Decide.{dec_lt, ℕ_discrete}
use native.Mathlib.Omega.{arith}
use lib.Dec.{ltb, eqb}
use borrow.Author.Tests.{lt-ltb, le-ltb, eq-eqb, ne_eqb}
use Rattle.bounded.specs.Below.{some_below}

-- One number more is one more that may pass.
pub some_below_add_one : (n : ℕ) (t : ℕ → Bool) → some_below (n + 1) t ≡ (some_below n t || t n)
unfolding some_below
some_below_add_one n t = rw add-one

-- Where some number passes, this is one.
pub some_below_true : (n : ℕ) (t : ℕ → Bool) → some_below n t ≡ true → (k : ℕ) × (k < n) × (t k ≡ true)
unfolding some_below
some_below_true zero t e = absurd (true≢false (cc))
some_below_true (suc n) t e = go (some_below n t) (some_below_true n t) (t n) refl e
  where
    go : (some : Bool) → (some ≡ true → (k : ℕ) × (k < n) × (t k ≡ true)) → (last : Bool) → t n ≡ last → (some || last) ≡ true
        → (k : ℕ) × (k < suc n) × (t k ≡ true)
    go true s last l both = let r = s refl in (r.0, omega arith, r.2)
    go false s true l both = (n, le_refl (suc n), l)
    go false s false l both = absurd (true≢false (cc))

-- Where a number passes, some number does.
pub true_some_below : (n : ℕ) (t : ℕ → Bool) (k : ℕ) → k < n → t k ≡ true → some_below n t ≡ true
unfolding some_below
true_some_below zero t k h e = absurd (not-suc-le-zero h)
true_some_below (suc n) t k h e =
    ⊎_elim
    (λ (q : k ≡ n). rw (← q, e) (or-true (some_below k t)))
    (λ below. rw (true_some_below n t k below e) refl)
    (eq-or-lt_of_le (le_of_suc-le-suc h))

-- A condition that every number's test has stands before the test of some.
pub some_below_and : (n : ℕ) (b : Bool) (t u : ℕ → Bool) → ((k : ℕ) → k < n → t k ≡ (b && u k)) → some_below n t ≡ (b && some_below n u)
unfolding some_below
some_below_and zero b t u same = sym (and-false b)
some_below_and (suc n) b t u same =
    ap₂ ◌||◌ (some_below_and n b t u (λ k h. same k (omega arith))) (same n (le_refl (suc n))) ∙ sym (and-or_distrib_left b (some_below n u) (u n))

-- Some number passes and is i where i is below the bound and passes.
pub some_below_at : (n i : ℕ) (t : ℕ → Bool) → some_below n (λ k. t k && eqb i k) ≡ (ltb i n && t i)
unfolding some_below
some_below_at zero i t = rw (le-ltb i 0 (omega arith)) refl
some_below_at (suc n) i t = rw (some_below_at n i t) (go (ℕ_discrete i n) (dec_lt i n))
  where
    go : Dec (i ≡ n) → Dec (i < n) → (ltb i n && t i || t n && eqb i n) ≡ (ltb i (suc n) && t i)
    go (yes q) d = rw (q, le-ltb n n (omega arith), eq-eqb n n refl, lt-ltb n (suc n) (omega arith)) (and-true (t n))
    go (no ne) (yes l) = rw (ne_eqb i n ne, lt-ltb i n l, lt-ltb i (suc n) (omega arith), and-false (t n)) (or-false (t i))
    go (no ne) (no l) = rw (ne_eqb i n ne, le-ltb i n (omega arith), le-ltb i (suc n) (omega arith)) (and-false (t n))
