-- The size of a set: the number of its members is the number of ones of its word.
use mathlib.Core.Path.{◌≡◌, refl, sym, ap, ap₂, ◌∙◌}
use mathlib.Core.Bool.{Bool, true, false}
use mathlib.Core.Logic.{◌↔◌}
use Prim.Native.Nat.{ℕ, zero, suc, ◌+◌, ◌*◌, ◌%◌, ◌^◌, ◌<◌}
use native.Mathlib.Nat.{add_comm, mod-one, mod-lt, mod-eq_of_lt}
use native.Mathlib.Numerals.{one-add}
use lib.Pow.{pow_pos, mod-pow-add}
use lib.Count.{ones, ones_cat}
use Rattle.bitset.specs.Members.{member}
use Rattle.bitset.specs.Count.{count_below, size}
use Rattle.bitset.proofs.Membership.{digit, digit_member}
use Rattle.bitset.proofs.SetOf.{no_member}
use Rattle.bitset.proofs.CountBelow.{count_below_zero}

ones_digit : (test : Bool) → ones (digit test) ≡ digit test
unfolding ones
ones_digit true = refl
ones_digit false = refl

-- Of the numbers below k, as many are members as the k low digits have ones.
pub count_below_ones : (k s : ℕ) → count_below k (member s) ≡ ones (s % 2 ^ k)
unfolding count_below ones
count_below_ones zero s = ap ones (sym (mod-one s))
count_below_ones (suc k) s =
    ap₂ ◌+◌ (count_below_ones k s) (sym (ones_digit (member s k)))
    ∙ add_comm (ones (s % 2 ^ k)) (ones (digit (member s k)))
    ∙ sym (ones_cat k (digit (member s k)) (s % 2 ^ k) (mod-lt s (pow_pos k)))
    ∙ ap (λ (d : ℕ). ones (d * 2 ^ k + s % 2 ^ k)) (digit_member s k)
    ∙ ap ones (sym (mod-pow-add s 1 k) ∙ ap (λ (n : ℕ). s % 2 ^ n) (one-add k))

-- The size of a word is its number of ones.
pub size_ones : {s : ℕ} → s < 2 ^ 64 → size s ≡ ones s
size_ones {s} h = count_below_ones 64 s ∙ ap ones (mod-eq_of_lt h)

-- A word has size 0 exactly where it is 0.
pub size_zero : {s : ℕ} → s < 2 ^ 64 → (size s ≡ 0) ↔ (s ≡ 0)
size_zero {s} h = (
  λ e. (no_member 64 h).1 ((count_below_zero 64 (member s)).0 e),
  λ e. (count_below_zero 64 (member s)).1 ((no_member 64 h).0 e),
)
