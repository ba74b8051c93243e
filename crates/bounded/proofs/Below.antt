-- Laws of a sum and of a run of bytes over all numbers below a bound.
use mathlib.Core.Path.{◌≡◌, refl, sym, ap₂, ◌∙◌}
use mathlib.Core.Bool.{Bool, true, false, cond, ◌&&◌}
use mathlib.Core.List.{List, ◌++◌}
use Prim.Native.Nat.{ℕ, zero, suc, ◌+◌, ◌*◌, ◌-◌, ◌≤◌, ◌<◌}
use native.Mathlib.Nat.{le_refl, mul-zero, mul-suc, mul-add}
use native.Mathlib.Numerals.{add-one}
use native.Mathlib.Decide.{le_ind, ℕ_discrete}
use native.Mathlib.Omega.{arith}
use lib.Dec.{leb}
use lib.ListN.{length, length-append}
use borrow.Author.Tests.{leb-true}
use Rattle.bounded.specs.Below.{sum_below, run_below}

-- A sum over one number more has that number's term added.
pub sum_below_add_one : (n : ℕ) (f : ℕ → ℕ) → sum_below (n + 1) f ≡ sum_below n f + f n
unfolding sum_below
sum_below_add_one n f = rw add-one

-- A run over one number more has that number's piece at its end.
pub run_below_add_one : (n : ℕ) (f : ℕ → List ℕ) → run_below (n + 1) f ≡ run_below n f ++ f n
unfolding run_below
run_below_add_one n f = rw add-one

-- It is longer by that piece.
pub length_run_below_add_one : (n : ℕ) (f : ℕ → List ℕ) → length (run_below (n + 1) f) ≡ length (run_below n f) + length (f n)
length_run_below_add_one n f = rw (run_below_add_one, length-append)

-- A run is as long as its pieces together.
pub length_run_below : (n : ℕ) (f : ℕ → List ℕ) → length (run_below n f) ≡ sum_below n (λ k. length (f k))
unfolding run_below sum_below
length_run_below zero f = refl
length_run_below (suc n) f = rw (length-append, length_run_below n f)

-- Where each number of one sum is at most that of another, so is the sum.
pub sum_below_le : (n : ℕ) (f h : ℕ → ℕ) → ((k : ℕ) → k < n → f k ≤ h k) → sum_below n f ≤ sum_below n h
unfolding sum_below
sum_below_le zero f h each = le_refl 0
sum_below_le (suc n) f h each =
    let before = sum_below_le n f h (λ k l. each k (omega arith)) in
    let last = each n (le_refl (suc n)) in
    omega arith

-- Where one of them is less besides, so is the sum.
pub sum_below_lt : (n : ℕ) (f h : ℕ → ℕ) → ((k : ℕ) → k < n → f k ≤ h k) → (m : ℕ) → m < n → f m < h m → sum_below n f < sum_below n h
unfolding sum_below
sum_below_lt zero f h each m l less = omega (arith, l)
sum_below_lt (suc n) f h each m l less =
    elim (ℕ_discrete m n) [
      | yes e ↦ omega (arith, sum_below_le n f h (λ k b. each k (omega arith)), rw e at less)
      | no e ↦ omega (arith, sum_below_lt n f h (λ k b. each k (omega arith)) m (omega (arith, e)) less, each n (le_refl (suc n)))
    ]

-- A sum over more numbers is at least as great.
pub sum_below_more : (m n : ℕ) (f : ℕ → ℕ) → m ≤ n → sum_below m f ≤ sum_below n f
unfolding sum_below
sum_below_more m n f h = le_ind (λ k. sum_below m f ≤ sum_below k f) (le_refl (sum_below m f)) (λ k l before. omega arith) n h

-- A piece and the pieces before it are no longer than the whole run.
pub length_run_below_piece : (k n : ℕ) (f : ℕ → List ℕ) → k < n → length (run_below k f) + length (f k) ≤ length (run_below n f)
unfolding sum_below
length_run_below_piece k n f h = simp length_run_below (sum_below_more (suc k) n (λ i. length (f i)) h)

-- A sum of the same number throughout is a product.
pub sum_below_same : (n c : ℕ) → sum_below n (λ k. c) ≡ c * n
unfolding sum_below
sum_below_same zero c = sym (mul-zero c)
sum_below_same (suc n) c = ap₂ ◌+◌ (sum_below_same n c) refl ∙ sym (mul-suc c n)

-- A factor goes out of a sum.
pub sum_below_mul : (n c : ℕ) (f : ℕ → ℕ) → sum_below n (λ k. c * f k) ≡ c * sum_below n f
unfolding sum_below
sum_below_mul zero c f = sym (mul-zero c)
sum_below_mul (suc n) c f = ap₂ ◌+◌ (sum_below_mul n c f) refl ∙ sym (mul-add c (sum_below n f) (f n))

-- one more number counts as a or above only where the difference grows
one_from : (n a : ℕ) (u : Bool) → cond (leb a n && u) 1 0 ≤ (suc n - a) - (n - a)
one_from n a u = go (leb a n) u refl
  where
    go : (t u : Bool) → leb a n ≡ t → cond (t && u) 1 0 ≤ (suc n - a) - (n - a)
    go true true e = omega (arith, leb-true a n e)
    go true false e = omega arith
    go false u e = omega arith

-- Of the numbers below n, at most n - a are a or above, whatever else is asked of them.
pub count_from : (n a : ℕ) (t : ℕ → Bool) → sum_below n (λ b. cond (leb a b && t b) 1 0) ≤ n - a
unfolding sum_below
count_from zero a t = omega arith
count_from (suc n) a t =
    let before = count_from n a t in
    let last = one_from n a (t n) in
    omega arith
