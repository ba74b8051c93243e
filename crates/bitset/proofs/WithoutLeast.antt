-- The set without its least member m: its members from m + 1 on, and the `&` of the word with the word less 1.
use mathlib.Core.Path.{◌≡◌, refl, sym, ap, ap₂, ◌∙◌}
use mathlib.Core.Bool.{◌&&◌, not}
use Prim.Native.Nat.{ℕ, ◌+◌, ◌-◌, ◌*◌, ◌/◌, ◌%◌, ◌^◌, ◌<◌}
use native.Mathlib.Nat.{mod-lt, mod_self}
use native.Mathlib.Decide.{dec_lt, ℕ_discrete}
use native.Mathlib.Numerals.{one-add, add-one}
use native.Mathlib.Omega.{arith}
use borrow.Author.Tests.{le-leb, lt-leb, eq-eqb, ne_eqb}
use lib.Dec.{leb, eqb}
use lib.Pow.{pow_pos, pow-lt, split, mod-pow-add}
use lib.Bits.{bit_and, and_block, and_self, and_mask}
use Rattle.bitset.specs.Members.{member, members_from}
use Rattle.bitset.specs.Count.{size}
use Rattle.bitset.specs.Least.{least_member, without_least, IsLeast}
use Rattle.std.specs.Prelude.{Some}
use Rattle.bitset.proofs.Membership.{digit, digit_member, member_mod}
use Rattle.bitset.proofs.SetOf.{set_of_congr, member_set_of, no_member}
use Rattle.bitset.proofs.CountBelow.{count_below_one}
use Rattle.bitset.proofs.LeastBelow.{least_below_member}
use Rattle.bitset.proofs.MembersFrom.{members_from_cleared}

-- A member of the set without its least member m is a member that is not m.
pub member_without_least : (s m j : ℕ) → least_member s ≡ Some m → j < 64 → member (without_least s) j ≡ (not (eqb j m) && member s j)
member_without_least s m j e h = rw e (member_set_of 64 (λ j. not (eqb j m) && member s j) j h)

-- Without its least member m, a set has its members from m + 1 on.
pub without_least_from : (s m : ℕ) → least_member s ≡ Some m → without_least s ≡ members_from s (m + 1)
without_least_from s m e =
    rw e (set_of_congr 64 (λ j. not (eqb j m) && member s j) (λ j. leb (m + 1) j && member s j) (λ j h. same j (dec_lt m j) (ℕ_discrete j m)))
  where
    same : (j : ℕ) → Dec (m < j) → Dec (j ≡ m) → (not (eqb j m) && member s j) ≡ (leb (m + 1) j && member s j)
    same j (yes h) d = rw (ne_eqb j m (λ q. omega arith), le-leb (m + 1) j (omega arith))
    same j (no n) (yes q) = rw (eq-eqb j m q, lt-leb (m + 1) j (omega arith))
    same j (no n) (no q) =
        rw (ne_eqb j m q, lt-leb (m + 1) j (omega arith)) ((least_below_member 64 (member s) e).first j (omega arith))

-- The digits of a number from its least member m down are those of 2 ^ m.
pub least_split : {k s m : ℕ} → IsLeast k (member s) m → s / 2 ^ (m + 1) * 2 ^ (m + 1) + 2 ^ m ≡ s
least_split {k} {s} {m} least = ap (λ (r : ℕ). s / 2 ^ (m + 1) * 2 ^ (m + 1) + r) (sym low_digits) ∙ split s (m + 1)
  where
    below : s % 2 ^ m ≡ 0
    below = (no_member m (mod-lt s (pow_pos m))).1 (λ i h. member_mod s m i h ∙ least.first i h)

    own : s / 2 ^ m % 2 ≡ 1
    own = sym (digit_member s m) ∙ ap digit least.passes

    low_digits : s % 2 ^ (m + 1) ≡ 2 ^ m
    low_digits =
        ap (λ (n : ℕ). s % 2 ^ n) (add-one m ∙ sym (one-add m))
        ∙ mod-pow-add s 1 m
        ∙ rw (own, below) (omega arith)

-- The `&` of a word and the word less 1 clears the least member.
pub and_less_one : {k m : ℕ} (s : ℕ) → IsLeast k (member s) m → bit_and s (s - 1) ≡ s / 2 ^ (m + 1) * 2 ^ (m + 1)
and_less_one {k} {m} s least =
    ap₂ bit_and (sym whole) less
    ∙ and_block (m + 1) h h (2 ^ m) (2 ^ m - 1) lt (omega (arith, lt))
    ∙ rw (and_self h, and_mask (2 ^ m) m, mod_self) (omega arith)
  where
    h : ℕ
    h = s / 2 ^ (m + 1)

    whole : h * 2 ^ (m + 1) + 2 ^ m ≡ s
    whole = least_split least

    lt : 2 ^ m < 2 ^ (m + 1)
    lt = pow-lt (omega arith)

    less : s - 1 ≡ h * 2 ^ (m + 1) + (2 ^ m - 1)
    less = omega (arith, whole, pow_pos m)

-- A word without its least member is its `&` with the word less 1,
pub without_least_and : {s : ℕ} (m : ℕ) → s < 2 ^ 64 → least_member s ≡ Some m → without_least s ≡ bit_and s (s - 1)
without_least_and {s} m h e =
    without_least_from s m e ∙ members_from_cleared (m + 1) h ∙ sym (and_less_one s (least_below_member 64 (member s) e))

-- and a smaller word.
pub without_least_smaller : (s m : ℕ) → s < 2 ^ 64 → least_member s ≡ Some m → without_least s < s
without_least_smaller s m h e =
    rw (without_least_from s m e ∙ members_from_cleared (m + 1) h)
    (omega (arith, least_split (least_below_member 64 (member s) e), pow_pos m))

-- It has one member less.
pub size_without_least : (s m : ℕ) → least_member s ≡ Some m → size s ≡ size (without_least s) + 1
size_without_least s m e =
    let least = least_below_member 64 (member s) e in
    count_below_one 64 m (member (without_least s)) (member s) least.below
    (member_without_least s m m e least.below ∙ rw (eq-eqb m m refl) refl)
    least.passes
    (λ j h n. member_without_least s m j e h ∙ rw (ne_eqb j m n) refl)
