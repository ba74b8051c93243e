-- The set of the numbers that pass a test: its members, and that a number is the set of its members.
use mathlib.Core.Path.{◌≡◌, refl, sym, ap, ap₂, ◌∙◌}
use mathlib.Core.Bool.{Bool, true, false, cond, not, ◌&&◌, ◌||◌, or_comm}
use mathlib.Core.Logic.{◌↔◌, ⊎_elim}
use Prim.Native.Nat.{ℕ, zero, suc, ◌+◌, ◌-◌, ◌*◌, ◌%◌, ◌^◌, ◌≤◌, ◌<◌}
use native.Mathlib.Nat.{not-suc-le-zero, le_of_suc-le-suc, le_refl, le_of_lt, eq-or-lt_of_le, zero-lt-suc}
use native.Mathlib.Nat.{mod-one, mod-eq_of_lt, pow-suc, lt_of_lt_of_le, add_comm, one-mul}
use native.Mathlib.Numerals.{add-one, one-add}
use native.Mathlib.Omega.{arith}
use native.Mathlib.Decide.{dec_lt}
use borrow.Author.Tests.{ne_eqb, lt-ltb, le-ltb}
use lib.Dec.{ltb, eqb}
use lib.Pow.{pow_pos, pow_mono, pow-lt, high, low, mod-pow-add}
use lib.Bits.{bit_and, bit_or, and_lt, or_lt, or_shifted_r}
use Rattle.bitset.specs.Members.{member, set_of, meet_of, union_of, difference_of, insert}
use Rattle.bitset.proofs.Membership.{digit, digit_test, digit_member, member_above, member_zero, member_mod, member_pow, member_and, member_or}

-- one more test puts its digit above the digits of the others
set_of_suc : (k : ℕ) (t : ℕ → Bool) → set_of (suc k) t ≡ digit (t k) * 2 ^ k + set_of k t
unfolding set_of
set_of_suc k t = go (t k)
  where
    go : (b : Bool) → set_of k t + cond b (2 ^ k) 0 ≡ digit b * 2 ^ k + set_of k t
    go true = rw one-mul (add_comm _ _)
    go false = omega arith

-- A set of numbers below k is below 2 ^ k.
pub set_of_lt : (k : ℕ) (t : ℕ → Bool) → set_of k t < 2 ^ k
unfolding set_of
set_of_lt zero t = zero-lt-suc 0
set_of_lt (suc k) t = go (t k) (set_of_lt k t)
  where
    go : (b : Bool) → set_of k t < 2 ^ k → set_of k t + cond b (2 ^ k) 0 < 2 ^ suc k
    go true h = rw pow-suc (omega arith)
    go false h = rw pow-suc (omega arith)

-- A set of numbers below 64 fits a word.
pub set_of_word : (k : ℕ) (t : ℕ → Bool) → k ≤ 64 → set_of k t < 2 ^ 64
set_of_word k t h = lt_of_lt_of_le (set_of_lt k t) (pow_mono h)

-- The members of the set of a test are the numbers below k that pass,
pub member_set_of : (k : ℕ) (t : ℕ → Bool) (i : ℕ) → i < k → member (set_of k t) i ≡ t i
unfolding member
member_set_of zero t i h = absurd (not-suc-le-zero h)
member_set_of (suc k) t i h =
    rw (set_of_suc k t) (⊎_elim top (λ l. rest l (member_set_of k t i l)) (eq-or-lt_of_le (le_of_suc-le-suc h)))
  where
    top : i ≡ k → member (digit (t k) * 2 ^ k + set_of k t) i ≡ t i
    top e = rw (e, high (digit (t k)) k (set_of_lt k t)) (digit_test (t k))

    rest : i < k → member (set_of k t) i ≡ t i → member (digit (t k) * 2 ^ k + set_of k t) i ≡ t i
    rest l known = sym (member_mod (digit (t k) * 2 ^ k + set_of k t) k i l) ∙ rw (low (digit (t k)) k (set_of_lt k t)) known

-- and no others.
pub member_set_of_above : (k : ℕ) (t : ℕ → Bool) (i : ℕ) → k ≤ i → member (set_of k t) i ≡ false
member_set_of_above k t i h = member_above k i (set_of_lt k t) h

-- The same tests below k make the same set.
pub set_of_congr : (k : ℕ) (t u : ℕ → Bool) → ((i : ℕ) → i < k → t i ≡ u i) → set_of k t ≡ set_of k u
unfolding set_of
set_of_congr zero t u same = refl
set_of_congr (suc k) t u same =
    ap₂ (λ (s : ℕ) (b : Bool). s + cond b (2 ^ k) 0) (set_of_congr k t u (λ i h. same i (omega arith))) (same k (le_refl (suc k)))

-- The set of a number's members below k is its k low digits,
pub set_of_member_mod : (k s : ℕ) → set_of k (member s) ≡ s % 2 ^ k
unfolding set_of member
set_of_member_mod zero s = sym (mod-one s)
set_of_member_mod (suc k) s =
    set_of_suc k (member s)
    ∙ ap₂ (λ (d r : ℕ). d * 2 ^ k + r) (digit_member s k) (set_of_member_mod k s)
    ∙ sym (mod-pow-add s 1 k) ∙ ap (λ (n : ℕ). s % 2 ^ n) (one-add k)

-- so a number below 2 ^ k is the set of its members below k.
pub set_of_member : {s : ℕ} (k : ℕ) → s < 2 ^ k → set_of k (member s) ≡ s
set_of_member {s} k h = set_of_member_mod k s ∙ mod-eq_of_lt h

-- Two numbers below 2 ^ k that have the same members below k are equal.
pub set_ext : {a b : ℕ} (k : ℕ) → a < 2 ^ k → b < 2 ^ k → ((i : ℕ) → i < k → member a i ≡ member b i) → a ≡ b
set_ext {a} {b} k ha hb same = sym (set_of_member k ha) ∙ set_of_congr k (member a) (member b) same ∙ set_of_member k hb

-- The numbers that pass two tests make the `&` of the two sets.
pub set_of_and : (k : ℕ) (t u : ℕ → Bool) → set_of k (λ i. t i && u i) ≡ bit_and (set_of k t) (set_of k u)
set_of_and k t u =
    set_ext k (set_of_lt k (λ i. t i && u i)) (and_lt k (set_of k t) (set_of k u) (set_of_lt k t) (set_of_lt k u))
    (λ i h. rw (member_and, member_set_of k t i h, member_set_of k u i h) (member_set_of k (λ j. t j && u j) i h))

-- A set is 0 exactly where it has no members.
pub no_member : {s : ℕ} (k : ℕ) → s < 2 ^ k → (s ≡ 0) ↔ ((i : ℕ) → i < k → member s i ≡ false)
no_member {s} k h = (
  λ e i l. rw e (member_zero i),
  λ none. set_ext k h (pow_pos k) (λ i l. none i l ∙ sym (member_zero i)),
)

-- The meet of two words is their `&`.
pub meet_of_and : {a b : ℕ} → a < 2 ^ 64 → b < 2 ^ 64 → meet_of a b ≡ bit_and a b
meet_of_and {a} {b} ha hb = set_of_and 64 (member a) (member b) ∙ ap₂ bit_and (set_of_member 64 ha) (set_of_member 64 hb)

-- The meet of the sets of two tests is the set of the numbers that pass both.
pub meet_of_set_of : (k : ℕ) (t u : ℕ → Bool) → k ≤ 64 → meet_of (set_of k t) (set_of k u) ≡ set_of k (λ i. t i && u i)
meet_of_set_of k t u h = meet_of_and (set_of_word k t h) (set_of_word k u h) ∙ sym (set_of_and k t u)

-- The empty set meets every other in nothing.
pub meet_empty : (s : ℕ) → meet_of 0 s ≡ 0
meet_empty s = set_of_congr 64 _ _ (λ i h. rw (member_zero i) refl) ∙ set_of_member 64 (pow_pos 64)

-- The union of two words is their `|`.
pub union_of_or : {a b : ℕ} → a < 2 ^ 64 → b < 2 ^ 64 → union_of a b ≡ bit_or a b
union_of_or {a} {b} ha hb =
    set_ext 64 (set_of_lt 64 (λ i. member a i || member b i)) (or_lt 64 a b ha hb)
    (λ i h. rw member_or (member_set_of 64 (λ j. member a j || member b j) i h))

-- The union of the sets of two tests is the set of the numbers that pass either.
pub union_of_set_of : (t u : ℕ → Bool) → union_of (set_of 64 t) (set_of 64 u) ≡ set_of 64 (λ i. t i || u i)
union_of_set_of t u = set_of_congr 64 _ _ (λ i h. rw (member_set_of 64 t i h, member_set_of 64 u i h) refl)

-- The set of a test with a number added is the set of the numbers that pass, or are it.
pub insert_set_of : (t : ℕ → Bool) (n : ℕ) → insert (set_of 64 t) n ≡ set_of 64 (λ i. eqb i n || t i)
insert_set_of t n = set_of_congr 64 _ _ (λ i h. rw (member_set_of 64 t i h) refl)

-- Of the numbers that pass a test, those that pass another and those that fail it are all.
pub set_of_parts : (k : ℕ) (t u : ℕ → Bool) → set_of k (λ i. t i && u i) + set_of k (λ i. t i && not (u i)) ≡ set_of k t
unfolding set_of
set_of_parts zero t u = refl
set_of_parts (suc k) t u = go (t k) (u k) (set_of_parts k t u)
  where
    go : (a b : Bool) → set_of k (λ i. t i && u i) + set_of k (λ i. t i && not (u i)) ≡ set_of k t
        → (set_of k (λ i. t i && u i) + cond (a && b) (2 ^ k) 0) + (set_of k (λ i. t i && not (u i)) + cond (a && not b) (2 ^ k) 0)
        ≡ set_of k t + cond a (2 ^ k) 0
    go true true e = omega arith
    go true false e = omega arith
    go false b e = omega arith

-- The members of one word that are not in another are the word less the `&` of both.
pub difference_sub : {a b : ℕ} → a < 2 ^ 64 → b < 2 ^ 64 → (bit_and a b ≤ a) × (difference_of a b ≡ a - bit_and a b)
difference_sub {a} {b} ha hb =
    let parts = set_of_parts 64 (member a) (member b) in
    let both = meet_of_and ha hb in
    let all = set_of_member 64 ha in
    (omega arith, omega arith)

-- A word with i added is its `|` with 2 ^ i,
pub insert_or : {s i : ℕ} → s < 2 ^ 64 → i < 64 → insert s i ≡ bit_or s (2 ^ i)
insert_or {s} {i} hs hi =
    set_ext 64 (set_of_lt 64 (λ j. eqb j i || member s j)) (or_lt 64 s (2 ^ i) hs (pow-lt hi))
    (λ j h. rw (member_or, member_pow) (member_set_of 64 (λ j. eqb j i || member s j) j h ∙ or_comm (eqb j i) (member s j)))

-- and the word itself where i is no number below 64.
pub insert_above : {s i : ℕ} → s < 2 ^ 64 → 64 ≤ i → insert s i ≡ s
insert_above {s} {i} hs hi =
    set_of_congr 64 (λ j. eqb j i || member s j) (member s) (λ j h. rw (ne_eqb j i (λ e. omega arith))) ∙ set_of_member 64 hs

-- A turn of a loop that adds each number that passes: i, which passes, is added to the set of those below i,
pub set_of_add : (t : ℕ → Bool) (i : ℕ) → i < 64 → t i ≡ true → insert (set_of i t) i ≡ set_of (i + 1) t
set_of_add t i h e =
    insert_or (set_of_word i t (le_of_lt h)) h
    ∙ ap (bit_or (set_of i t)) (sym (one-mul (2 ^ i)))
    ∙ or_shifted_r 1 i (set_of i t) (set_of_lt i t)
    ∙ sym (ap (λ (n : ℕ). set_of n t) (add-one i) ∙ set_of_suc i t ∙ ap (λ (b : Bool). digit b * 2 ^ i + set_of i t) e)

-- and where i fails, the set stays as it is.
pub set_of_skip : (t : ℕ → Bool) (i : ℕ) → t i ≡ false → set_of i t ≡ set_of (i + 1) t
unfolding set_of
set_of_skip t i e = rw (add-one, e) (omega arith)

-- The set of the numbers below n that pass, as a set of the numbers below 64.
pub set_of_within : (n : ℕ) (t : ℕ → Bool) → n ≤ 64 → set_of n t ≡ set_of 64 (λ v. ltb v n && t v)
set_of_within n t h =
    set_ext 64 (set_of_word n t h) (set_of_lt 64 (λ v. ltb v n && t v))
    (λ i l. same i (dec_lt i n) ∙ sym (member_set_of 64 (λ v. ltb v n && t v) i l))
  where
    same : (i : ℕ) → Dec (i < n) → member (set_of n t) i ≡ ltb i n && t i
    same i (yes below) = rw (lt-ltb i n below) (member_set_of n t i below)
    same i (no above) = rw (le-ltb i n (omega arith)) (member_set_of_above n t i (omega arith))
