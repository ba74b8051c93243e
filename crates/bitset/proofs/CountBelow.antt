-- How many numbers pass a test: the laws of the count.
use mathlib.Core.Path.{◌≡◌, refl, sym, ap₂, ◌∙◌}
use mathlib.Core.Bool.{Bool, true, false, not, ◌&&◌, ◌||◌}
use mathlib.Core.Logic.{◌↔◌, ◌≢◌, ⊎_elim}
use Prim.Native.Nat.{ℕ, zero, suc, ◌+◌, ◌≤◌, ◌<◌, zero-le}
use native.Mathlib.Nat.{le_refl, add-le-add, not-suc-le-zero, le_of_suc-le-suc, eq-or-lt_of_le}
use native.Mathlib.Omega.{arith}
use borrow.Author.Count.{below_none, below_more}
use Rattle.bitset.specs.Members.{member, set_of, union_of, difference_of}
use Rattle.bitset.specs.Count.{count_below, size}
use Rattle.bitset.proofs.Membership.{digit}
use Rattle.bitset.proofs.SetOf.{member_set_of}

digit_le : (b : Bool) → digit b ≤ 1
digit_le true = le_refl 1
digit_le false = zero-le

digit_zero : (b : Bool) → digit b ≡ 0 → b ≡ false
digit_zero true e = absurd (omega arith)
digit_zero false e = refl

digit_mono : (b d : Bool) → (b ≡ true → d ≡ true) → digit b ≤ digit d
digit_mono true d h = rw (h refl) (le_refl 1)
digit_mono false d h = zero-le

-- The same tests below k have the same count.
pub count_below_congr : (k : ℕ) (t u : ℕ → Bool) → ((i : ℕ) → i < k → t i ≡ u i) → count_below k t ≡ count_below k u
unfolding count_below
count_below_congr zero t u same = refl
count_below_congr (suc k) t u same =
    ap₂ (λ (n : ℕ) (b : Bool). n + digit b) (count_below_congr k t u (λ i h. same i (omega arith))) (same k (le_refl (suc k)))

-- Of the numbers below k at most k pass.
pub count_below_le : (k : ℕ) (t : ℕ → Bool) → count_below k t ≤ k
unfolding count_below
count_below_le zero t = zero-le
count_below_le (suc k) t = omega (arith, count_below_le k t, digit_le (t k))

-- A test that passes wherever another does has no smaller count.
pub count_below_mono : (k : ℕ) (t u : ℕ → Bool) → ((i : ℕ) → i < k → t i ≡ true → u i ≡ true) → count_below k t ≤ count_below k u
unfolding count_below
count_below_mono zero t u weaker = zero-le
count_below_mono (suc k) t u weaker =
    add-le-add (count_below_mono k t u (λ i h. weaker i (omega arith))) (digit_mono (t k) (u k) (weaker k (le_refl (suc k))))

-- The count is 0 exactly where no number below k passes.
pub count_below_zero : (k : ℕ) (t : ℕ → Bool) → (count_below k t ≡ 0) ↔ ((i : ℕ) → i < k → t i ≡ false)
unfolding count_below
count_below_zero zero t = (λ e. below_none _, λ none. refl)
count_below_zero (suc k) t = (
  λ e i h. below_more (λ j. t j ≡ false) k ((count_below_zero k t).0 (omega arith)) (digit_zero (t k) (omega arith)) i (omega arith),
  λ none. rw (none k (le_refl (suc k)), (count_below_zero k t).1 (λ i h. none i (omega arith))) refl,
)

-- One more number passes, and the count is one more.
pub count_below_one : (k m : ℕ) (t u : ℕ → Bool) → m < k → t m ≡ false → u m ≡ true → ((i : ℕ) → i < k → i ≢ m → t i ≡ u i)
    → count_below k u ≡ count_below k t + 1
unfolding count_below
count_below_one zero m t u h fails passes same = absurd (not-suc-le-zero h)
count_below_one (suc k) m t u h fails passes same =
    ⊎_elim
    (λ (e : m ≡ k).
    let below = count_below_congr k t u (λ i l. same i (omega arith) (λ q. omega arith)) in
    rw (← e, fails, passes) (rw e (omega arith)))
    (λ (l : m < k).
    let below = count_below_one k m t u l fails passes (λ i b n. same i (omega arith) n) in
    rw (same k (le_refl (suc k)) (λ q. omega arith)) (omega arith))
    (eq-or-lt_of_le (le_of_suc-le-suc h))

-- Of the numbers that pass a test, those that pass another and those that fail it are all.
pub count_below_parts : (k : ℕ) (t u : ℕ → Bool) → count_below k (λ i. t i && u i) + count_below k (λ i. t i && not (u i)) ≡ count_below k t
unfolding count_below
count_below_parts zero t u = refl
count_below_parts (suc k) t u = go (t k) (u k) (count_below_parts k t u)
  where
    go : (a b : Bool) → count_below k (λ i. t i && u i) + count_below k (λ i. t i && not (u i)) ≡ count_below k t
        → (count_below k (λ i. t i && u i) + digit (a && b)) + (count_below k (λ i. t i && not (u i)) + digit (a && not b))
        ≡ count_below k t + digit a
    go true true e = omega arith
    go true false e = omega arith
    go false b e = omega arith

-- The numbers that pass one of two tests are at most those that pass the one and those that pass the other.
pub count_below_either : (k : ℕ) (t u : ℕ → Bool) → count_below k (λ i. t i || u i) ≤ count_below k t + count_below k u
unfolding count_below
count_below_either zero t u = zero-le
count_below_either (suc k) t u = go (t k) (u k) (count_below_either k t u)
  where
    go : (a b : Bool) → count_below k (λ i. t i || u i) ≤ count_below k t + count_below k u
        → count_below k (λ i. t i || u i) + digit (a || b) ≤ (count_below k t + digit a) + (count_below k u + digit b)
    go true true e = omega arith
    go true false e = omega arith
    go false b e = omega arith

-- The set of a test has as many members as numbers pass.
pub size_set_of : (t : ℕ → Bool) → size (set_of 64 t) ≡ count_below 64 t
size_set_of t = count_below_congr 64 (member (set_of 64 t)) t (member_set_of 64 t)

-- A union has at most the members of both sets,
pub size_union : (a b : ℕ) → size (union_of a b) ≤ size a + size b
size_union a b = rw (size_set_of (λ i. member a i || member b i)) (count_below_either 64 (member a) (member b))

-- and a set has those of a part of it and those of the rest.
pub size_part : (a b : ℕ) → ((i : ℕ) → i < 64 → member b i ≡ true → member a i ≡ true) → size b + size (difference_of a b) ≡ size a
size_part a b within =
    ap₂ (λ (n m : ℕ). n + m) (count_below_congr 64 (member b) (λ i. member a i && member b i) (λ i h. go (member a i) (member b i) (within i h)))
    (size_set_of (λ i. member a i && not (member b i)))
    ∙ count_below_parts 64 (member a) (member b)
  where
    go : (x y : Bool) → (y ≡ true → x ≡ true) → y ≡ (x && y)
    go true y h = refl
    go false true h = sym (h refl)
    go false false h = refl
