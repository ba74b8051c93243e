-- The mapped rows of a mapping: x(0), .. x(k - 1) are exactly the rows whose entry is not 255, each once, rising.
use mathlib.Core.Path.{◌≡◌, refl}
use mathlib.Core.Logic.{◌≢◌}
use mathlib.Core.Bool.{Bool, true, false, cond}
use mathlib.Core.List.{List, [], ◌∷◌}
use Prim.Native.Nat.{ℕ, zero, suc, ◌+◌, ◌<◌}
use native.Mathlib.Nat.{not-suc-le-zero, le_of_suc-le-suc}
use native.Mathlib.Decide.{dec_lt}
use native.Mathlib.Omega.{arith}
use lib.Dec.{eqb}
use lib.ListN.{length, get_or}
use borrow.Author.Tests.{eqb-true, eqb-false}
use Rattle.mapping.specs.Common.{unmapped, mapped_from, size, x, y}

-- counted from v on, the i-th mapped row is v + k for a row k with a partner
abbrev From : ℕ → List ℕ → List ℕ → ℕ → Type 0
From v l rows i = (k : ℕ) × (k < length l) × (get_or l k 0 ≢ unmapped) × (get_or rows i 0 ≡ v + k)

from : (v : ℕ) (l : List ℕ) (i : ℕ) → i < length (mapped_from v l) → From v l (mapped_from v l) i
unfolding mapped_from
from v [] i h = absurd (not-suc-le-zero h)
from v (w ∷ l) i h = go (eqb w unmapped) refl i h (from (suc v) l)
  where
    rest : List ℕ
    rest = mapped_from (suc v) l

    later : (i : ℕ) → From (suc v) l rest i → From v (w ∷ l) rest i
    later i f = (suc f.0, omega arith, f.2, omega arith)

    go : (t : Bool) → eqb w unmapped ≡ t → (i : ℕ) → i < length (cond t rest (v ∷ rest))
        → ((i : ℕ) → i < length rest → From (suc v) l rest i) → From v (w ∷ l) (cond t rest (v ∷ rest)) i
    go true e i h ih = later i (ih i h)
    go false e zero h ih = (0, omega arith, eqb-false w unmapped e, omega arith)
    go false e (suc i) h ih = later i (ih i (le_of_suc-le-suc h))

-- and each such row is among them
among : (v : ℕ) (l : List ℕ) (k : ℕ) → k < length l → get_or l k 0 ≢ unmapped
    → (i : ℕ) × (i < length (mapped_from v l)) × (get_or (mapped_from v l) i 0 ≡ v + k)
unfolding mapped_from
among v [] k h m = absurd (not-suc-le-zero h)
among v (w ∷ l) k h m = go (eqb w unmapped) refl k h m (among (suc v) l)
  where
    rest : List ℕ
    rest = mapped_from (suc v) l

    go : (t : Bool) → eqb w unmapped ≡ t → (k : ℕ) → k < suc (length l) → get_or (w ∷ l) k 0 ≢ unmapped
        → ((k : ℕ) → k < length l → get_or l k 0 ≢ unmapped → (i : ℕ) × (i < length rest) × (get_or rest i 0 ≡ suc v + k))
        → (i : ℕ) × (i < length (cond t rest (v ∷ rest))) × (get_or (cond t rest (v ∷ rest)) i 0 ≡ v + k)
    go true e zero h m ih = absurd (m (eqb-true w unmapped e))
    go true e (suc k) h m ih = let r = ih k (le_of_suc-le-suc h) m in (r.0, r.1, omega arith)
    go false e zero h m ih = (0, omega arith, omega arith)
    go false e (suc k) h m ih = let r = ih k (le_of_suc-le-suc h) m in (suc r.0, omega arith, omega arith)

-- they rise
rising : (v : ℕ) (l : List ℕ) (i j : ℕ) → i < j → j < length (mapped_from v l) → get_or (mapped_from v l) i 0 < get_or (mapped_from v l) j 0
unfolding mapped_from
rising v [] i j h k = absurd (not-suc-le-zero k)
rising v (w ∷ l) i j h k = go (eqb w unmapped) i j h k (rising (suc v) l)
  where
    rest : List ℕ
    rest = mapped_from (suc v) l

    go : (t : Bool) (i j : ℕ) → i < j → j < length (cond t rest (v ∷ rest))
        → ((i j : ℕ) → i < j → j < length rest → get_or rest i 0 < get_or rest j 0)
        → get_or (cond t rest (v ∷ rest)) i 0 < get_or (cond t rest (v ∷ rest)) j 0
    go true i j h k ih = ih i j h k
    go false i zero h k ih = absurd (not-suc-le-zero h)
    go false zero (suc j) h k ih = let f = from (suc v) l j (le_of_suc-le-suc k) in omega arith
    go false (suc i) (suc j) h k ih = ih i j (le_of_suc-le-suc h) (le_of_suc-le-suc k)

module _ (l : List ℕ) where
  -- A mapped row is a row of the mapping.
  pub x_below : (i : ℕ) → i < size l → x l i < length l
  x_below i h = let f = from 0 l i h in omega arith

  -- A mapped row has a partner.
  pub x_mapped : (i : ℕ) → i < size l → y l i ≢ unmapped
  x_mapped i h = let f = from 0 l i h in let e : x l i ≡ f.0 = omega arith in rw e f.2

  -- A row with a partner is a mapped row.
  pub mapped_x : (v : ℕ) → v < length l → get_or l v 0 ≢ unmapped → (i : ℕ) × (i < size l) × (x l i ≡ v)
  mapped_x v h m = let r = among 0 l v h m in (r.0, r.1, omega arith)

  -- The mapped rows rise.
  pub x_rising : (i j : ℕ) → i < j → j < size l → x l i < x l j
  x_rising = rising 0 l

  -- No mapped row comes twice.
  pub x_injective : (i j : ℕ) → i < size l → j < size l → x l i ≡ x l j → i ≡ j
  x_injective i j hi hj e = go (dec_lt i j) (dec_lt j i)
    where
      go : Dec (i < j) → Dec (j < i) → i ≡ j
      go (yes h) d = absurd (omega (arith, x_rising i j h hj))
      go (no h) (yes k) = absurd (omega (arith, x_rising j i k hi))
      go (no h) (no k) = omega arith
