-- The members from a number on: those of the word with its digits below that number cleared.
use mathlib.Core.Path.{◌≡◌, sym, ap, ◌∙◌}
use mathlib.Core.Bool.{◌&&◌}
use Prim.Native.Nat.{ℕ, ◌+◌, ◌-◌, ◌*◌, ◌/◌, ◌^◌, ◌≤◌, ◌<◌}
use native.Mathlib.Nat.{mul-mod_left, div-mul-le_self, lt_of_le_of_lt}
use native.Mathlib.Decide.{dec_lt}
use native.Mathlib.Omega.{arith}
use borrow.Author.Tests.{le-leb, lt-leb}
use lib.Dec.{leb}
use lib.Pow.{shl-shr}
use Rattle.bitset.specs.Members.{member, members_from}
use Rattle.bitset.proofs.Membership.{member_shr, member_mod, member_zero}
use Rattle.bitset.proofs.SetOf.{set_of_lt, member_set_of, set_ext, no_member}

-- A member from i on is a member that is at least i.
pub member_from : (s i j : ℕ) → j < 64 → member (members_from s i) j ≡ (leb i j && member s j)
member_from s i j h = member_set_of 64 (λ j. leb i j && member s j) j h

-- A word shifted down and up again has its members from i on,
pub member_cleared : (s i j : ℕ) → member (s / 2 ^ i * 2 ^ i) j ≡ (leb i j && member s j)
member_cleared s i j =
    elim (dec_lt j i) [
      | yes h ↦ rw (lt-leb i j h) (sym (member_mod (s / 2 ^ i * 2 ^ i) i j h) ∙ rw mul-mod_left (member_zero j))
      | no n ↦ rw (le-leb i j (omega arith)) (kept (j - i) (omega arith))
    ]
  where
    kept : (d : ℕ) → j ≡ i + d → member (s / 2 ^ i * 2 ^ i) j ≡ member s j
    kept d e =
        ap (member (s / 2 ^ i * 2 ^ i)) e
        ∙ sym (member_shr (s / 2 ^ i * 2 ^ i) i d)
        ∙ ap (λ (n : ℕ). member n d) (shl-shr (s / 2 ^ i) i)
        ∙ member_shr s i d
        ∙ sym (ap (member s) e)

-- and still fits,
pub cleared_lt : (s k i : ℕ) → s < 2 ^ k → s / 2 ^ i * 2 ^ i < 2 ^ k
cleared_lt s k i h = lt_of_le_of_lt (div-mul-le_self s (2 ^ i)) h

-- so it is the set of them.
pub members_from_cleared : {s : ℕ} (i : ℕ) → s < 2 ^ 64 → members_from s i ≡ s / 2 ^ i * 2 ^ i
members_from_cleared {s} i h =
    set_ext 64 (set_of_lt 64 (λ j. leb i j && member s j)) (cleared_lt s 64 i h)
    (λ j l. member_from s i j l ∙ sym (member_cleared s i j))

-- No member is 64 or more.
pub members_from_above : (s i : ℕ) → 64 ≤ i → members_from s i ≡ 0
members_from_above s i h =
    (no_member 64 (set_of_lt 64 (λ j. leb i j && member s j))).1
    (λ j l. member_from s i j l ∙ rw (lt-leb i j (omega arith)))
