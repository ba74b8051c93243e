-- The first finding below a bound: none exactly where no number has one, and else that of the first number that has one.
use mathlib.Core.Path.{◌≡◌, refl, ap₂, ◌∙◌}
use mathlib.Core.Logic.{⊎_elim}
use mathlib.Core.Option.{Option, none, some, some-ne-none, none-ne-some}
use Prim.Native.Nat.{ℕ, zero, suc, ◌+◌, ◌≤◌, ◌<◌, zero-le}
use native.Mathlib.Nat.{not-suc-le-zero, le_of_suc-le-suc, le_refl, eq-or-lt_of_le}
use native.Mathlib.Omega.{arith}
use borrow.Author.Count.{below_none, below_more}
use Rattle.bounded.specs.First.{or_else, first_below}

module _ {A : Type 0} where
  -- neither of two has a finding where the first of them is none
  both_none : (a b : Option A) → or_else a b ≡ none → (a ≡ none) × (b ≡ none)
  both_none (some a) b e = absurd (some-ne-none a e)
  both_none none b e = (refl, e)

  -- Where there is no first finding, no number below the bound has one.
  pub first_below_none : (n : ℕ) (f : ℕ → Option A) → first_below n f ≡ none → (k : ℕ) → k < n → f k ≡ none
  unfolding first_below
  first_below_none zero f e k h = absurd (not-suc-le-zero h)
  first_below_none (suc n) f e k h =
      let both = both_none (first_below n f) (f n) e in
      ⊎_elim (λ (q : k ≡ n). rw q both.1) (first_below_none n f both.0 k) (eq-or-lt_of_le (le_of_suc-le-suc h))

  -- Where no number below the bound has a finding, there is no first one.
  pub none_first_below : (n : ℕ) (f : ℕ → Option A) → ((k : ℕ) → k < n → f k ≡ none) → first_below n f ≡ none
  unfolding first_below
  none_first_below zero f each = refl
  none_first_below (suc n) f each = rw (none_first_below n f (λ k h. each k (omega arith))) (each n (le_refl (suc n)))

  -- Where the numbers before k have no finding, that of k is the first.
  pub some_first_below : (n : ℕ) (f : ℕ → Option A) (k : ℕ) (a : A) → k < n → ((j : ℕ) → j < k → f j ≡ none) → f k ≡ some a
      → first_below n f ≡ some a
  unfolding first_below
  some_first_below zero f k a h before e = absurd (not-suc-le-zero h)
  some_first_below (suc n) f k a h before e =
      ⊎_elim
      (λ (q : k ≡ n). rw (← q, none_first_below k f before) e)
      (λ below. rw (some_first_below n f k a below before e))
      (eq-or-lt_of_le (le_of_suc-le-suc h))

  -- The same findings below the bound make the same first one.
  pub first_below_congr : (n : ℕ) (f g : ℕ → Option A) → ((k : ℕ) → k < n → f k ≡ g k) → first_below n f ≡ first_below n g
  unfolding first_below
  first_below_congr zero f g same = refl
  first_below_congr (suc n) f g same = ap₂ or_else (first_below_congr n f g (λ k h. same k (omega arith))) (same n (le_refl (suc n)))

  -- A first finding is that of some number below the bound, and no number before it has one.
  pub first_below_some : (n : ℕ) (f : ℕ → Option A) (a : A) → first_below n f ≡ some a
      → (k : ℕ) × (k < n) × (f k ≡ some a) × ((j : ℕ) → j < k → f j ≡ none)
  unfolding first_below
  first_below_some zero f a e = absurd (none-ne-some a e)
  first_below_some (suc n) f a e = go (first_below n f) refl e (first_below_some n f)
    where
      go : (o : Option A) → first_below n f ≡ o → or_else o (f n) ≡ some a
          → ((a : A) → first_below n f ≡ some a → (k : ℕ) × (k < n) × (f k ≡ some a) × ((j : ℕ) → j < k → f j ≡ none))
          → (k : ℕ) × (k < suc n) × (f k ≡ some a) × ((j : ℕ) → j < k → f j ≡ none)
      go none q r earlier = (n, le_refl (suc n), r, first_below_none n f q)
      go (some b) q r earlier = let k = earlier a (q ∙ r) in (k.0, omega arith, k.2, k.3)

-- The invariant of a loop that looks at the numbers below n one after the other: those below i have no finding.
abbrev pub ClearTo : {A : Type 0} → ℕ → (ℕ → Option A) → ℕ → Type 0
ClearTo n f i = (i ≤ n) × ((k : ℕ) → k < i → f k ≡ none)

module _ {A : Type 0} (n : ℕ) (f : ℕ → Option A) where
  -- At the start nothing has been looked at.
  pub clear_none : ClearTo n f 0
  clear_none = (zero-le, below_none _)

  -- A number with no finding leads to the next one.
  pub clear_more : (i : ℕ) → i < n → ClearTo n f i → f i ≡ none → ClearTo n f (i + 1)
  clear_more i h c e = (omega arith, below_more _ i c.1 e)

  -- A loop that has come to the bound has found nothing.
  pub clear_all : (i : ℕ) → n ≤ i → ClearTo n f i → first_below n f ≡ none
  clear_all i h c = none_first_below n f (λ k l. c.1 k (omega arith))

  -- A loop that comes upon a finding has found the first.
  pub clear_found : (i : ℕ) (a : A) → i < n → ClearTo n f i → f i ≡ some a → first_below n f ≡ some a
  clear_found i a h c e = some_first_below n f i a h c.1 e
