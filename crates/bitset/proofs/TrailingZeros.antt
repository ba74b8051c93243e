-- The trailing zeros of a word are its least member.
use mathlib.Core.Path.{◌≡◌, refl, sym, ap, ◌∙◌}
use mathlib.Core.Bool.{true, false}
use Prim.Native.Nat.{ℕ, zero, suc, ◌+◌, ◌-◌, ◌/◌, ◌%◌, ◌^◌, ◌<◌}
use native.Mathlib.Nat.{not-suc-le-zero, le_of_suc-le-suc, div-one, add_comm, lt_of_le_of_lt}
use native.Mathlib.Decide.{dec_lt}
use native.Mathlib.Numerals.{one-add}
use native.Mathlib.Omega.{arith}
use lib.Dec.{eqb}
use lib.Pow.{shr_le}
use lib.Count.{under, count_trailing_zeros}
use Rattle.bitset.specs.Members.{member}
use Rattle.bitset.specs.Least.{IsLeast, IsLeastAbove}
use Rattle.bitset.proofs.Membership.{member_shr, member_zero, member_below}
use Rattle.bitset.proofs.SetOf.{no_member}

lowest : (s : ℕ) → member s 0 ≡ eqb (s % 2) 1
unfolding member
lowest s = rw div-one

half : (s i : ℕ) → member s (suc i) ≡ member (s / 2) i
half s i = sym (member_shr s 1 i ∙ ap (member s) (one-add i))

-- No number below the trailing zeros is a member,
pub trailing_first : (k s i : ℕ) → i < count_trailing_zeros k s → member s i ≡ false
unfolding count_trailing_zeros
trailing_first zero s i h = absurd (not-suc-le-zero h)
trailing_first (suc k) s i h = go (trailing_first k (s / 2)) (s % 2) refl i h
  where
    go : ((j : ℕ) → j < count_trailing_zeros k (s / 2) → member (s / 2) j ≡ false) → (d : ℕ) → s % 2 ≡ d
        → (i : ℕ) → i < under d (count_trailing_zeros k (s / 2)) → member s i ≡ false
    go rest zero e zero h = lowest s ∙ rw e
    go rest zero e (suc i) h = half s i ∙ rest i (le_of_suc-le-suc h)
    go rest (suc d) e i h = absurd (not-suc-le-zero h)

-- and their number is, unless all k digits are zeros.
pub trailing_member : (k s : ℕ) → count_trailing_zeros k s < k → member s (count_trailing_zeros k s) ≡ true
unfolding count_trailing_zeros
trailing_member zero s h = absurd (not-suc-le-zero h)
trailing_member (suc k) s h = go (trailing_member k (s / 2)) (s % 2) refl h
  where
    go : (count_trailing_zeros k (s / 2) < k → member (s / 2) (count_trailing_zeros k (s / 2)) ≡ true) → (d : ℕ) → s % 2 ≡ d
        → under d (count_trailing_zeros k (s / 2)) < suc k → member s (under d (count_trailing_zeros k (s / 2))) ≡ true
    go rest zero e h = half s (count_trailing_zeros k (s / 2)) ∙ rest (le_of_suc-le-suc h)
    go rest (suc d) e h = let one : s % 2 ≡ 1 = omega arith in lowest s ∙ rw one

-- The trailing zeros of a number below 2 ^ k that is not 0 are its least member.
pub trailing_least : {s : ℕ} (k : ℕ) → s < 2 ^ k → (s ≡ 0 → ⊥) → IsLeast k (member s) (count_trailing_zeros k s)
trailing_least {s} k h nonzero = record { below = below; passes = trailing_member k s below; first = trailing_first k s }
  where
    below : count_trailing_zeros k s < k
    below =
        elim (dec_lt (count_trailing_zeros k s) k) [
          | yes l ↦ l
          | no n ↦ absurd (nonzero ((no_member k h).1 (λ i l. trailing_first k s i (omega arith))))
        ]

-- a member above i is a member of the word shifted past i
shifted : (s i j : ℕ) → i < j → member s j ≡ member (s / 2 ^ (i + 1)) (j - (i + 1))
shifted s i j h = let whole : j ≡ i + 1 + (j - (i + 1)) = omega arith in ap (member s) whole ∙ sym (member_shr s (i + 1) (j - (i + 1)))

-- Where the word shifted past i is 0, no member is above i.
pub shifted_none : (s i : ℕ) → s / 2 ^ (i + 1) ≡ 0 → (j : ℕ) → i < j → member s j ≡ false
shifted_none s i e j h = shifted s i j h ∙ rw e (member_zero (j - (i + 1)))

-- Where it is not, its trailing zeros and the shift make the least member above i.
pub shifted_least : {s : ℕ} (i : ℕ) → s < 2 ^ 64 → (s / 2 ^ (i + 1) ≡ 0 → ⊥)
    → IsLeastAbove s i (count_trailing_zeros 64 (s / 2 ^ (i + 1)) + (i + 1))
shifted_least {s} i h nonzero =
    record {
      above = omega arith;
      below = member_below 64 (z + (i + 1)) h is_member;
      is_member = is_member;
      first = λ j l m. shifted s i j l ∙ least.first (j - (i + 1)) (omega arith);
    }
  where
    z : ℕ
    z = count_trailing_zeros 64 (s / 2 ^ (i + 1))

    least : IsLeast 64 (member (s / 2 ^ (i + 1))) z
    least = trailing_least 64 (lt_of_le_of_lt (shr_le s (i + 1)) h) nonzero

    is_member : member s (z + (i + 1)) ≡ true
    is_member = ap (member s) (add_comm z (i + 1)) ∙ sym (member_shr s (i + 1) z) ∙ least.passes
