-- The recurrence of a table, by one test that antt computes over all of its entries.
use mathlib.Core.Path.{◌≡◌, refl, ap, ◌∙◌}
use mathlib.Core.Bool.{Bool, true, false, ◌&&◌, and-eq-true_iff, false≢true}
use mathlib.Core.List.{List, [], ◌∷◌, ◌++◌}
use Prim.Native.Nat.{ℕ, zero, suc, ◌+◌, ◌*◌, ◌%◌, ◌-◌, ◌≤◌, ◌<◌}
use native.Mathlib.Nat.{not-suc-le-zero, le_of_suc-le-suc, mul-add-mod_self_left, mod-eq_of_lt}
use native.Mathlib.Omega.{arith}
use lib.Dec.{eqb}
use borrow.Author.Tests.{eqb-true}
use lib.ListN.{length, get_or, replicate, get_or-replicate, get_or-append}
use lib.Seq.{get_or-append-add}
use Rattle.step_limit.specs.StepLimits.{capped, entry, CappedRecurrence}

-- what the recurrence gives at a place of the table: the new size is its column
abbrev rule : ℕ → ℕ → ℕ → ℕ
rule place left above = capped (1 + place % 65 * left + above)

-- the entries from a place on are those of the recurrence; given are the entries above them, and the one before these
unfoldable pub follows : ℕ → ℕ → List ℕ → List ℕ → Bool
follows place left above [] = true
follows place left [] (x ∷ xs) = false
follows place left (a ∷ above) (x ∷ xs) = eqb x (rule place left a) && follows (suc place) a above xs

-- above the first row stands one of 0, so that its entries are 1
unfoldable pub recurrent : List ℕ → Bool
recurrent table = follows 0 0 (replicate 65 0 ++ table) table

-- Where the test passes, each entry is that of the recurrence.
follows_at : (place left : ℕ) (above xs : List ℕ) → follows place left above xs ≡ true → (k : ℕ) → k < length xs
    → get_or xs k 0 ≡ rule (place + k) (get_or (left ∷ above) k 0) (get_or above k 0)
unfolding follows
follows_at place left above [] e k h = absurd (not-suc-le-zero h)
follows_at place left [] (x ∷ xs) e k h = absurd (false≢true e)
follows_at place left (a ∷ above) (x ∷ xs) e zero h =
    let both = (and-eq-true_iff (eqb x (rule place left a)) (follows (suc place) a above xs)).0 e in
    eqb-true x (rule place left a) both.0 ∙ ap (λ (p : ℕ). rule p left a) (omega arith)
follows_at place left (a ∷ above) (x ∷ xs) e (suc k) h =
    let both = (and-eq-true_iff (eqb x (rule place left a)) (follows (suc place) a above xs)).0 e in
    follows_at (suc place) a above xs both.1 k (le_of_suc-le-suc h)
    ∙ ap (λ (p : ℕ). rule p (get_or (a ∷ above) k 0) (get_or above k 0)) (omega arith)

module _ (table : List ℕ) (sized : length table ≡ 65 * 65) (test : recurrent table ≡ true) where
  -- the entries above those of the table
  abbrev above_table : List ℕ
  above_table = replicate 65 0 ++ table

  at : (k : ℕ) → k < 4225 → get_or table k 0 ≡ rule k (get_or (0 ∷ above_table) k 0) (get_or above_table k 0)
  unfolding recurrent
  at k h =
      follows_at 0 0 above_table table test k (omega arith)
      ∙ ap (λ (p : ℕ). rule p (get_or (0 ∷ above_table) k 0) (get_or above_table k 0)) (omega arith)

  above_first : (k : ℕ) → k < 65 → get_or above_table k 0 ≡ 0
  above_first k h = get_or-append (replicate 65 0) table 0 k h ∙ get_or-replicate 65 k 0 0 h

  left_first : (k : ℕ) → k < 65 → get_or (0 ∷ above_table) k 0 ≡ 0
  left_first zero h = refl
  left_first (suc k) h = above_first k (omega arith)

  above_later : (m n : ℕ) → get_or above_table (65 * (n + 1) + m) 0 ≡ entry table m n
  above_later m n =
      let place : 65 * (n + 1) + m ≡ 65 + (65 * n + m) = omega arith in
      rw place (get_or-append-add (replicate 65 0) table (65 * n + m) 0)

  -- at the first column the entry to the left is of no account
  left_later : (m n : ℕ) → m * get_or (0 ∷ above_table) (65 * (n + 1) + m) 0 ≡ m * entry table (m - 1) n
  left_later zero n = omega arith
  left_later (suc m) n =
      let place : 65 * (n + 1) + suc m ≡ suc (65 * (n + 1) + m) = omega arith in
      let before : suc m - 1 ≡ m = omega arith in
      rw (place, before, above_later m n)

  column : (m n : ℕ) → m ≤ 64 → (65 * n + m) % 65 ≡ m
  column m n h = mul-add-mod_self_left 65 n m ∙ mod-eq_of_lt (omega arith)

  first_row : (m : ℕ) → m ≤ 64 → entry table m 0 ≡ 1
  first_row m h =
      let place : 65 * 0 + m ≡ m = omega arith in
      rw (place, at m (omega arith), left_first m (omega arith), above_first m (omega arith)) (omega arith)

  later_row : (m n : ℕ) → m ≤ 64 → n < 64 → entry table m (n + 1) ≡ capped (1 + m * entry table (m - 1) n + entry table m n)
  later_row m n h l = at (65 * (n + 1) + m) (omega arith) ∙ rw (column m (n + 1) h, left_later m n, above_later m n)

  -- The test gives the recurrence.
  pub test_recurrence : CappedRecurrence table
  test_recurrence = record { entries = sized; none_old = first_row; one_more = later_row }
