-- The size of a mapping counts its entries that are not 255, so it adds up row by row.
use mathlib.Core.Path.{◌≡◌, refl, ◌∙◌}
use mathlib.Core.Logic.{◌≢◌}
use mathlib.Core.Bool.{Bool, true, false, cond, not}
use mathlib.Core.List.{List, [], ◌∷◌, ◌++◌}
use Prim.Native.Nat.{ℕ, zero, suc, ◌+◌, ◌≤◌, ◌<◌}
use native.Mathlib.Nat.{not-suc-le-zero, le_of_suc-le-suc}
use native.Mathlib.Omega.{arith}
use lib.Dec.{eqb}
use lib.ListN.{length, get_or, set, replicate}
use borrow.Author.Tests.{ne_eqb}
use Rattle.std.specs.Prelude.{count_by}
use Rattle.std.proofs.lemmas.List.Recursion.{is_count_by}
use Rattle.mapping.specs.Common.{unmapped, mapped_from, size}

-- what one entry adds to the size
abbrev pub counted : ℕ → ℕ
counted w = cond (eqb w unmapped) 0 1

-- The number of mapped rows does not depend on the number that the rows are counted from.
pub length_mapped_from : (v u : ℕ) (l : List ℕ) → length (mapped_from v l) ≡ length (mapped_from u l)
unfolding mapped_from
length_mapped_from v u [] = refl
length_mapped_from v u (w ∷ l) = go (eqb w unmapped) (mapped_from (suc v) l) (mapped_from (suc u) l) (length_mapped_from (suc v) (suc u) l)
  where
    go : (t : Bool) (r s : List ℕ) → length r ≡ length s → length (cond t r (v ∷ r)) ≡ length (cond t s (u ∷ s))
    go true r s e = e
    go false r s e = omega arith

-- A mapping of no rows has size 0.
pub size_nil : size [] ≡ 0
unfolding mapped_from
size_nil = refl

-- The size is that of the rows after the first, and one more where the first is mapped.
pub size_cons : (w : ℕ) (l : List ℕ) → size (w ∷ l) ≡ counted w + size l
unfolding mapped_from
size_cons w l = go (eqb w unmapped) (mapped_from 1 l) (mapped_from 0 l) (length_mapped_from 1 0 l)
  where
    go : (t : Bool) (r s : List ℕ) → length r ≡ length s → length (cond t r (0 ∷ r)) ≡ cond t 0 1 + length s
    go true r s e = omega arith
    go false r s e = omega arith

-- The sizes of two parts add up.
pub size_append : (l m : List ℕ) → size (l ++ m) ≡ size l + size m
size_append [] m = omega (arith, size_nil)
size_append (w ∷ l) m = omega (arith, size_cons w (l ++ m), size_cons w l, size_append l m)

-- A row counts at most one.
pub counted_max : (w : ℕ) → counted w ≤ 1
counted_max w = go (eqb w unmapped)
  where
    go : (t : Bool) → cond t 0 1 ≤ 1
    go true = omega arith
    go false = omega arith

-- The size is at most the number of rows.
pub size_max : (l : List ℕ) → size l ≤ length l
size_max [] = omega (arith, size_nil)
size_max (w ∷ l) = omega (arith, size_cons w l, size_max l, counted_max w)

-- The mapping that leaves all rows out has size 0.
pub size_none : (n : ℕ) → size (replicate n unmapped) ≡ 0
size_none zero = size_nil
size_none (suc n) = omega (arith, size_cons unmapped (replicate n unmapped), size_none n)

-- A mapped row counts one.
pub counted_mapped : (w : ℕ) → w ≢ unmapped → counted w ≡ 1
counted_mapped w m = rw (ne_eqb w unmapped m)

-- An image put into a row that was left out adds one to the size.
pub size_set : (l : List ℕ) (v w : ℕ) → v < length l → get_or l v 0 ≡ unmapped → w ≢ unmapped → size (set l v w) ≡ suc (size l)
size_set [] v w h e m = absurd (not-suc-le-zero h)
size_set (u ∷ l) zero w h e m = rw e (omega (arith, size_cons w l, size_cons unmapped l, counted_mapped w m))
size_set (u ∷ l) (suc v) w h e m = omega (arith, size_cons u (set l v w), size_cons u l, size_set l v w (le_of_suc-le-suc h) e m)

-- The size is how many entries are not 255.
pub size_counts : (l : List ℕ) → size l ≡ count_by (λ w. not (eqb w unmapped)) l
size_counts l = is_count_by size (λ w. not (eqb w unmapped)) size_nil step l
  where
    step : (w : ℕ) (l : List ℕ) → size (w ∷ l) ≡ cond (not (eqb w unmapped)) (1 + size l) (size l)
    step w l = size_cons w l ∙ go (eqb w unmapped)
      where
        go : (t : Bool) → cond t 0 1 + size l ≡ cond (not t) (1 + size l) (size l)
        go true = omega arith
        go false = refl
