-- The least number that passes a test: the two answers of `least_below`, and what each says.
use mathlib.Core.Path.{◌≡◌, refl}
use mathlib.Core.Bool.{Bool, true, false, cond, ◌&&◌, and-eq-true_iff}
use mathlib.Core.Logic.{⊎_elim}
use Prim.Native.Nat.{ℕ, zero, suc, ◌<◌}
use native.Mathlib.Nat.{le_refl, le_step, le_of_suc-le-suc, not-suc-le-zero, eq-or-lt_of_le}
use native.Mathlib.Omega.{arith}
use borrow.Author.Count.{below_none, below_more}
use borrow.Author.Tests.{lt-ltb, ltb-true}
use lib.Dec.{ltb}
use Rattle.bitset.specs.Members.{member}
use Rattle.bitset.specs.Least.{or_else, least_below, least_above, IsLeast, IsLeastAbove}
use Rattle.std.specs.Prelude.{Option}
use Rattle.std.specs.Prelude.{Some, None}

-- Where no number below k passes, the answer is None.
pub least_below_none : (k : ℕ) (t : ℕ → Bool) → ((i : ℕ) → i < k → t i ≡ false) → least_below k t ≡ None
unfolding least_below
least_below_none zero t none = refl
least_below_none (suc k) t none = rw (least_below_none k t (λ i h. none i (omega arith)), none k (le_refl (suc k)))

-- Where m is the least number below k that passes, the answer is m.
pub least_below_least : (k : ℕ) (t : ℕ → Bool) (m : ℕ) → IsLeast k t m → least_below k t ≡ Some m
unfolding least_below
least_below_least zero t m least = absurd (not-suc-le-zero least.below)
least_below_least (suc k) t m least =
    ⊎_elim
    (λ (e : m ≡ k). rw (least_below_none k t (rw e at least.first), ← e, least.passes))
    (λ (h : m < k). rw (least_below_least k t m (record { below = h; passes = least.passes; first = least.first })))
    (eq-or-lt_of_le (le_of_suc-le-suc least.below))

-- what an answer says of the test
Says : ℕ → (ℕ → Bool) → Option ℕ → Type 0
Says k t (Some m) = IsLeast k t m
Says k t None = (i : ℕ) → i < k → t i ≡ false

says : (k : ℕ) (t : ℕ → Bool) → Says k t (least_below k t)
unfolding Says least_below
says zero t = below_none _
says (suc k) t = go (least_below k t) (says k t) (t k) refl
  where
    go : (l : Option ℕ) → Says k t l → (b : Bool) → t k ≡ b → Says (suc k) t (or_else l (cond b (Some k) None))
    go (Some m) s b e = record { below = le_step s.below; passes = s.passes; first = s.first }
    go None s true e = record { below = le_refl (suc k); passes = e; first = s }
    go None s false e = λ i h. below_more (λ j. t j ≡ false) k s e i (omega arith)

-- The answer m is the least number below k that passes.
pub least_below_member : (k : ℕ) (t : ℕ → Bool) {m : ℕ} → least_below k t ≡ Some m → IsLeast k t m
unfolding Says
least_below_member k t e = rw e at (says k t)

-- The answer None says that no number below k passes.
pub least_below_empty : (k : ℕ) (t : ℕ → Bool) → least_below k t ≡ None → (i : ℕ) → i < k → t i ≡ false
unfolding Says
least_below_empty k t e = rw e at (says k t)

-- a number that is no member above i fails the test of `least_above`
not_above : (s i j : ℕ) → (i < j → member s j ≡ false) → (ltb i j && member s j) ≡ false
not_above s i j none = go (ltb i j) refl
  where
    go : (b : Bool) → ltb i j ≡ b → (b && member s j) ≡ false
    go true e = none (ltb-true i j e)
    go false e = refl

-- Where m is the least member above i, the answer is m.
pub least_above_least : (s i m : ℕ) → IsLeastAbove s i m → least_above s i ≡ Some m
least_above_least s i m least =
    least_below_least 64 (λ j. ltb i j && member s j) m
    (record {
      below = least.below;
      passes = rw (lt-ltb i m least.above) least.is_member;
      first = λ j h. not_above s i j (λ l. least.first j l h);
    })

-- Where no member is above i, the answer is None.
pub least_above_none : (s i : ℕ) → ((j : ℕ) → i < j → j < 64 → member s j ≡ false) → least_above s i ≡ None
least_above_none s i none =
    least_below_none 64 (λ j. ltb i j && member s j) (λ j h. not_above s i j (λ l. none j l h))

-- The answer m is the least member above i.
pub least_above_member : (s i : ℕ) {m : ℕ} → least_above s i ≡ Some m → IsLeastAbove s i m
least_above_member s i {m} e =
    let least = least_below_member 64 (λ j. ltb i j && member s j) e in
    let both = (and-eq-true_iff (ltb i m) (member s m)).0 least.passes in
    record {
      above = ltb-true i m both.0;
      below = least.below;
      is_member = both.1;
      first = λ j h l. rw (lt-ltb i j h) at (least.first j l);
    }

-- The answer None says that no member is above i.
pub least_above_empty : (s i : ℕ) → least_above s i ≡ None → (j : ℕ) → i < j → j < 64 → member s j ≡ false
least_above_empty s i e j h l = rw (lt-ltb i j h) at (least_below_empty 64 (λ j. ltb i j && member s j) e j l)
