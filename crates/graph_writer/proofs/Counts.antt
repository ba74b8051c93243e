-- What is counted and added up over a range, as sums over all numbers below a bound.
use Rattle.std.proofs.Common.{◌≡◌, ◌∙◌, refl, ap, ℕ, zero, suc, ◌+◌, Bool, true, false, cond, List, [], ◌∷◌, ◌++◌, length, arith, length-append, zero-add}
use Rattle.std.specs.List.{range_with_len, filter, sum_by}
use Rattle.std.proofs.lemmas.List.Sums.{sum_by-append}
use Rattle.std.proofs.lemmas.List.Elements.{filter-append}
use Rattle.bounded.specs.Below.{sum_below}

-- one number more
range_more : (a n j : ℕ) → a + n ≡ j → range_with_len a (suc n) ≡ range_with_len a n ++ j ∷ []
range_more a zero j e = ap (λ (k : ℕ). k ∷ []) (omega (arith, e))
range_more a (suc n) j e = ap (λ (l : List ℕ). a ∷ l) (range_more (a + 1) n j (omega (arith, e)))

-- The numbers below n that pass the test.
pub count_below : (test : ℕ → Bool) (n : ℕ) → length (filter test (range_with_len 0 n)) ≡ sum_below n (λ k. cond (test k) 1 0)
unfolding sum_below
count_below test zero = refl
count_below test (suc n) =
    ap (λ (l : List ℕ). length (filter test l)) (range_more 0 n n (zero-add n))
    ∙ rw (filter-append, length-append, count_below test n) (ap (λ (k : ℕ). sum_below n (λ i. cond (test i) 1 0) + k) (one (test n)))
  where
    one : (t : Bool) → length (cond t (n ∷ []) []) ≡ cond t 1 0
    one true = refl
    one false = refl

-- The sum of a number for each number below n.
pub sum_range : (f : ℕ → ℕ) (n : ℕ) → sum_by f (range_with_len 0 n) ≡ sum_below n f
unfolding sum_below
sum_range f zero = refl
sum_range f (suc n) = ap (sum_by f) (range_more 0 n n (zero-add n)) ∙ rw sum_by-append (omega (arith, sum_range f n))
