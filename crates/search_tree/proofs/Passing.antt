-- The numbers below a bound that pass a test: as a list, which rises, and counted.
use mathlib.Core.Path.{◌≡◌, refl, ◌∙◌}
use mathlib.Core.Logic.{⊎_elim}
use mathlib.Core.Bool.{Bool, true, false, cond, not, ◌&&◌, and-true, and-false}
use mathlib.Core.List.Memᴰ
use mathlib.Core.List.{
  List,
  [],
  ◌∷◌,
  ◌++◌,
  append-nil,
  Memᴰ,
}
use Prim.Native.Nat.{ℕ, zero, suc, ◌+◌, ◌≤◌, ◌<◌}
use native.Mathlib.Nat.{le_refl, not-suc-le-zero, le_of_suc-le-suc, eq-or-lt_of_le, zero-add, suc-add}
use native.Mathlib.Omega.{arith}
use lib.Dec.{eqb}
use lib.ListN.{length}
use borrow.Author.Tests.{eq-eqb, ne_eqb}
use Rattle.bounded.specs.Below.{sum_below, run_below}
use Rattle.bounded.proofs.Below.{length_run_below}
use Rattle.search_tree.specs.Node.{list_if}
use Rattle.search_tree.proofs.Sums.{sum_below_agree}

-- the numbers below n that pass, in rising order
abbrev pub passing : ℕ → (ℕ → Bool) → List ℕ
passing n t = run_below n (λ v. list_if (t v) v)

-- how many numbers below n pass
abbrev pub count : ℕ → (ℕ → Bool) → ℕ
count n t = sum_below n (λ v. cond (t v) 1 0)

-- each number is below all that follow it
abbrev pub Rising : List ℕ → Type 0
Rising [] = Unit {0}
Rising (a ∷ l) = ((b : ℕ) → Memᴰ b l → a < b) × Rising l

-- A number above all of a rising list may follow it.
pub rising_snoc : (l : List ℕ) (v : ℕ) → Rising l → ((b : ℕ) → Memᴰ b l → b < v) → Rising (l ++ (v ∷ []))
rising_snoc [] v r above = (λ b m. absurd (Memᴰ.not-nil m), tt)
rising_snoc (a ∷ l) v r above = (
  λ b m. ⊎_elim (r.0 b) (λ i. omega (arith, Memᴰ.eq_of_singleton i, above a (Memᴰ.head refl))) (Memᴰ.append_cases l m),
  rising_snoc l v r.1 (λ b m. above b (Memᴰ.tail m)),
)

-- A number at the bound or above it is taken out: as many pass.
pub count_outside : (n w : ℕ) (t : ℕ → Bool) → n ≤ w → count n (λ v. t v && not (eqb w v)) ≡ count n t
count_outside n w t h = sum_below_agree n _ _ (λ k l. rw (ne_eqb w k (omega arith), and-true))

-- One number that passes is taken out: one fewer passes.
pub count_without : (n w : ℕ) (t : ℕ → Bool) → w < n → t w ≡ true → count n (λ v. t v && not (eqb w v)) + 1 ≡ count n t
unfolding sum_below
count_without zero w t h e = absurd (not-suc-le-zero h)
count_without (suc n) w t h e =
    ⊎_elim
    (λ (q : w ≡ n). let passes : t n ≡ true = rw q at e in rw (eq-eqb w n q, passes) (omega (arith, count_outside n w t (omega arith))))
    (λ l. rw (ne_eqb w n (omega arith), and-true) (omega (arith, count_without n w t l e)))
    (eq-or-lt_of_le (le_of_suc-le-suc h))

length_list_if : (b : Bool) (k : ℕ) → length (list_if b k) ≡ cond b 1 0
length_list_if true k = refl
length_list_if false k = refl

in_list_if : (b : Bool) (n : ℕ) {v : ℕ} → Memᴰ v (list_if b n) → (v ≡ n) × (b ≡ true)
in_list_if true n m = (Memᴰ.eq_of_singleton m, refl)
in_list_if false n m = absurd (Memᴰ.not-nil m)

module _ (t : ℕ → Bool) where
  -- The list is as long as the count.
  pub length_passing : (n : ℕ) → length (passing n t) ≡ count n t
  length_passing n = length_run_below n _ ∙ sum_below_agree n _ _ (λ k h. length_list_if (t k) k)

  -- A number of the list is below the bound and passes.
  pub mem_passes : (n : ℕ) {v : ℕ} → Memᴰ v (passing n t) → (v < n) × (t v ≡ true)
  unfolding run_below
  mem_passes zero m = absurd (Memᴰ.not-nil m)
  mem_passes (suc n) {v} m =
      ⊎_elim
      (λ i. let r = mem_passes n i in (omega arith, r.1))
      (λ i. let r = in_list_if (t n) n i in let e : v ≡ n = r.0 in (omega arith, rw e r.1))
      (Memᴰ.append_cases (passing n t) m)

  -- A number below the bound that passes is in the list.
  pub passes_mem : (n : ℕ) {v : ℕ} → v < n → t v ≡ true → Memᴰ v (passing n t)
  unfolding run_below
  passes_mem zero h e = absurd (not-suc-le-zero h)
  passes_mem (suc n) {v} h e =
      ⊎_elim
      (λ (q : v ≡ n). let passes : t n ≡ true = rw q at e in rw passes (Memᴰ.append_right (passing n t) (Memᴰ.head q)))
      (λ l. Memᴰ.append_left (list_if (t n) n) (passes_mem n l e))
      (eq-or-lt_of_le (le_of_suc-le-suc h))

  -- Where no number below the bound passes, the list is empty.
  pub passing_none : (n : ℕ) → ((i : ℕ) → i < n → t i ≡ false) → passing n t ≡ []
  unfolding run_below
  passing_none zero none = refl
  passing_none (suc n) none = rw (passing_none n (λ i h. none i (omega arith)), none n (le_refl (suc n)))

  -- The list rises.
  pub rising_passing : (n : ℕ) → Rising (passing n t)
  unfolding run_below
  rising_passing zero = tt
  rising_passing (suc n) = go (t n) (rising_passing n)
    where
      go : (b : Bool) → Rising (passing n t) → Rising (passing n t ++ list_if b n)
      go true r = rising_snoc (passing n t) n r (λ b m. (mem_passes n m).0)
      go false r = rw append-nil r

-- The list depends only on which numbers pass.
pub passing_agree : (n : ℕ) (t u : ℕ → Bool) → ((i : ℕ) → i < n → t i ≡ u i) → passing n t ≡ passing n u
unfolding run_below
passing_agree zero t u same = refl
passing_agree (suc n) t u same = rw (passing_agree n t u (λ i h. same i (omega arith)), same n (le_refl (suc n)))

-- The least number that passes comes first, and then the others.
pub passing_least : (n : ℕ) (t : ℕ → Bool) (v : ℕ) → v < n → t v ≡ true → ((i : ℕ) → i < v → t i ≡ false)
    → passing n t ≡ v ∷ passing n (λ i. not (eqb i v) && t i)
unfolding run_below
passing_least zero t v h e first = absurd (not-suc-le-zero h)
passing_least (suc n) t v h e first =
    ⊎_elim
    (λ (q : v ≡ n).
    rw (← q, passing_none t v first, passing_none (λ i. not (eqb i v) && t i) v (λ i l. rw (first i l, and-false)), eq-eqb v v refl, e))
    (λ l. rw (passing_least n t v l e first, ne_eqb n v (omega arith)))
    (eq-or-lt_of_le (le_of_suc-le-suc h))

-- Numbers that do not pass may stand behind the bound.
pub passing_beyond : (k n : ℕ) (t : ℕ → Bool) → ((i : ℕ) → n ≤ i → t i ≡ false) → passing (k + n) t ≡ passing n t
unfolding run_below
passing_beyond zero n t none = rw zero-add
passing_beyond (suc k) n t none = rw (suc-add, none (k + n) (omega arith), append-nil) (passing_beyond k n t none)
