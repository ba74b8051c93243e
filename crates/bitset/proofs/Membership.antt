-- Membership in a number: above its length, in its low digits, after a shift, in a power of two, and through `&` and `|`.
use mathlib.Core.Path.{◌≡◌, refl, sym, ap, ◌∙◌}
use mathlib.Core.Bool.{Bool, true, false, cond, true≢false, ◌&&◌, ◌||◌}
use Prim.Native.Nat.{ℕ, zero, suc, ◌+◌, ◌-◌, ◌/◌, ◌%◌, ◌^◌, ◌≤◌, ◌<◌}
use native.Mathlib.Nat.{zero-div, div-eq_of_lt, div_self, mod_self, lt_of_lt_of_le, le_refl}
use native.Mathlib.Decide.{dec_lt, ℕ_discrete}
use native.Mathlib.Omega.{arith}
use borrow.Author.Tests.{eq-eqb, ne_eqb}
use lib.Dec.{eqb}
use lib.Pow.{pow_pos, pow_mono, pow-lt, shr-shr, field, mod-mod-pow}
use lib.Bits.{bit_and, bit_or, and_shr, or_shr, and_mod, or_mod}
use Rattle.bitset.specs.Members.{member}

-- the digit that a test sets
abbrev pub digit : Bool → ℕ
digit test = cond test 1 0

-- A test's digit, read as a test, is the test.
pub digit_test : (test : Bool) → eqb (digit test % 2) 1 ≡ test
digit_test true = refl
digit_test false = refl

-- Membership is digit i, read as a test.
pub digit_member : (s i : ℕ) → digit (member s i) ≡ s / 2 ^ i % 2
unfolding member
digit_member s i = go (s / 2 ^ i % 2) (omega arith)
  where
    go : (x : ℕ) → x < 2 → digit (eqb x 1) ≡ x
    go zero h = refl
    go (suc zero) h = refl
    go (suc (suc x)) h = absurd (omega arith)

-- A number below 2 ^ k has no member from k on.
pub member_above : {s : ℕ} (k i : ℕ) → s < 2 ^ k → k ≤ i → member s i ≡ false
unfolding member
member_above k i h l = rw (div-eq_of_lt (lt_of_lt_of_le h (pow_mono l)))

-- A member of a number below 2 ^ k is below k.
pub member_below : {s : ℕ} (k i : ℕ) → s < 2 ^ k → member s i ≡ true → i < k
member_below k i h e =
    elim (dec_lt i k) [
      | yes l ↦ l
      | no n ↦ absurd (true≢false (sym e ∙ member_above k i h (omega arith)))
    ]

-- 0 has no members.
pub member_zero : (i : ℕ) → member 0 i ≡ false
unfolding member
member_zero i = rw zero-div

-- A shift by k moves the members from k on down.
pub member_shr : (s k i : ℕ) → member (s / 2 ^ k) i ≡ member s (k + i)
unfolding member
member_shr s k i = rw (shr-shr s k i)

-- The k low digits have the members below k.
pub member_mod : (s k i : ℕ) → i < k → member (s % 2 ^ k) i ≡ member s i
unfolding member
member_mod s k i h =
    let above : ℕ = k - suc i in
    let split : k ≡ above + 1 + i = omega arith in
    ap (λ (n : ℕ). eqb (s % 2 ^ n / 2 ^ i % 2) 1) split
    ∙ ap (λ (n : ℕ). eqb (n % 2) 1) (field s (above + 1) i)
    ∙ ap (λ (n : ℕ). eqb n 1) (mod-mod-pow (s / 2 ^ i) above 1)

-- The one member of 2 ^ i is i.
pub member_pow : (i j : ℕ) → member (2 ^ i) j ≡ eqb j i
unfolding member
member_pow i j = go (dec_lt j i) (ℕ_discrete j i)
  where
    own : (k : ℕ) → k ≡ i → member (2 ^ i) k ≡ true
    own k e = rw (e, div_self (pow_pos i))

    go : Dec (j < i) → Dec (j ≡ i) → member (2 ^ i) j ≡ eqb j i
    go (yes h) d = sym (member_mod (2 ^ i) i j h) ∙ rw mod_self (member_zero j) ∙ sym (ne_eqb j i (λ e. omega arith))
    go (no h) (yes e) = own j e ∙ sym (eq-eqb j i e)
    go (no h) (no n) = member_above (suc i) j (pow-lt (le_refl (suc i))) (omega arith) ∙ sym (ne_eqb j i n)

-- A member of `a & b` is a member of both.
pub member_and : (a b i : ℕ) → member (bit_and a b) i ≡ (member a i && member b i)
unfolding member
member_and a b i =
    ap (λ (n : ℕ). eqb (n % 2) 1) (and_shr a b i)
    ∙ ap (λ (n : ℕ). eqb n 1) (and_mod (a / 2 ^ i) (b / 2 ^ i) 1)
    ∙ digits (a / 2 ^ i % 2) (b / 2 ^ i % 2) (omega arith) (omega arith)
  where
    digits : (x y : ℕ) → x < 2 → y < 2 → eqb (bit_and x y) 1 ≡ (eqb x 1 && eqb y 1)
    digits zero zero h l = refl
    digits zero (suc y) h l = refl
    digits (suc zero) zero h l = refl
    digits (suc zero) (suc zero) h l = refl
    digits (suc zero) (suc (suc y)) h l = absurd (omega arith)
    digits (suc (suc x)) y h l = absurd (omega arith)

-- A member of `a | b` is a member of one of them.
pub member_or : (a b i : ℕ) → member (bit_or a b) i ≡ (member a i || member b i)
unfolding member
member_or a b i =
    ap (λ (n : ℕ). eqb (n % 2) 1) (or_shr a b i)
    ∙ ap (λ (n : ℕ). eqb n 1) (or_mod (a / 2 ^ i) (b / 2 ^ i) 1)
    ∙ digits (a / 2 ^ i % 2) (b / 2 ^ i % 2) (omega arith) (omega arith)
  where
    digits : (x y : ℕ) → x < 2 → y < 2 → eqb (bit_or x y) 1 ≡ (eqb x 1 || eqb y 1)
    digits zero y h l = refl
    digits (suc zero) zero h l = refl
    digits (suc zero) (suc zero) h l = refl
    digits (suc zero) (suc (suc y)) h l = absurd (omega arith)
    digits (suc (suc x)) y h l = absurd (omega arith)
