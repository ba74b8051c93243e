-- A mapping and a list of pairs in which no old vertex comes twice: each is made from the other, entry by entry and pair by pair.
use mathlib.Core.Path.{◌≡◌, refl, sym, ap, ap₂, ◌∙◌}
use mathlib.Core.Logic.{◌↔◌, ◌≢◌}
use mathlib.Core.List.{List, [], ◌∷◌, map}
use Prim.Native.Nat.{ℕ, zero, suc, ◌<◌}
use native.Mathlib.Nat.{not-suc-le-zero, le_of_suc-le-suc}
use native.Mathlib.Decide.{ℕ_discrete}
use native.Mathlib.Omega.{arith}
use lib.ListN.{length, get_or, length-map, length-set, length-replicate, get_or-replicate}
use lib.Seq.{get_or-set_same, get_or-set_other, ext_get_or}
use Rattle.mapping.specs.Common.{unmapped, size, mapped, x, y}
use Rattle.mapping.proofs.Mapped.{x_below, x_mapped, mapped_x, x_injective}
use Rattle.mapping.proofs.Size.{size_none, size_set}
use Rattle.clique.specs.Association.{Pair, pair, pair_at, Among, pairs_of, mapping_of}

-- A pair is given by its two vertices.
pair_is : (p : Pair) (v w : ℕ) → p.old ≡ v → p.new ≡ w → p ≡ pair v w
pair_is p v w ev ew = ap₂ pair ev ew

-- ---- the pairs of a mapping

map_at : (f : ℕ → Pair) (r : List ℕ) (i : ℕ) → i < length r → pair_at (map f r) i ≡ f (get_or r i 0)
map_at f [] i h = absurd (not-suc-le-zero h)
map_at f (v ∷ r) zero h = refl
map_at f (v ∷ r) (suc i) h = map_at f r i (le_of_suc-le-suc h)

module _ (l : List ℕ) where
  -- A mapping has as many pairs as its size says.
  pub pairs_length : length (pairs_of l) ≡ size l
  pairs_length = length-map (mapped l) (λ v. pair v (get_or l v 0))

  -- A place among the pairs is one of the mapped rows.
  pub pairs_inside : (i : ℕ) → i < length (pairs_of l) → i < size l
  pairs_inside i h = omega (arith, pairs_length)

  -- Pair i is x(i) with y(i).
  pub pairs_at : (i : ℕ) → i < size l → pair_at (pairs_of l) i ≡ pair (x l i) (y l i)
  pairs_at i h = map_at (λ v. pair v (get_or l v 0)) (mapped l) i h

  -- A pair is one of the mapping's exactly where the mapping has that entry.
  pub pairs_entry : (v w : ℕ) → Among (pair v w) (pairs_of l) ↔ ((v < length l) × (w ≢ unmapped) × (get_or l v 0 ≡ w))
  pairs_entry v w = (there, back)
    where
      there : Among (pair v w) (pairs_of l) → (v < length l) × (w ≢ unmapped) × (get_or l v 0 ≡ w)
      there a =
          let h = pairs_inside a.0 a.1 in
          let e : pair (x l a.0) (y l a.0) ≡ pair v w = sym (pairs_at a.0 h) ∙ a.2 in
          let ev : x l a.0 ≡ v = ap (λ (p : Pair). p.old) e in
          let ew : y l a.0 ≡ w = ap (λ (p : Pair). p.new) e in
          (rw ev at (x_below l a.0 h), rw ew at (x_mapped l a.0 h), ap (λ (u : ℕ). get_or l u 0) (sym ev) ∙ ew)

      back : (v < length l) × (w ≢ unmapped) × (get_or l v 0 ≡ w) → Among (pair v w) (pairs_of l)
      back f =
          let i = mapped_x l v f.0 (λ e. f.1 (sym f.2 ∙ e)) in (
            i.0,
            omega (arith, pairs_length, i.1),
            pairs_at i.0 i.1 ∙ ap₂ pair i.2 (ap (λ (u : ℕ). get_or l u 0) i.2 ∙ f.2),
          )

-- ---- the mapping of a list of pairs

-- each pair has a row and an image, and no two have one row
pub record Separate (n : ℕ) (c : List Pair) : Type 0 where
  pub below : (i : ℕ) → i < length c → (pair_at c i).old < n
  pub image : (i : ℕ) → i < length c → (pair_at c i).new ≢ unmapped
  pub rows : (i j : ℕ) → i < length c → j < length c → (pair_at c i).old ≡ (pair_at c j).old → i ≡ j

later : (n : ℕ) (p : Pair) (c : List Pair) → Separate n (p ∷ c) → Separate n c
later n p c s = record {
  below = λ i h. s.below (suc i) (omega arith);
  image = λ i h. s.image (suc i) (omega arith);
  rows = λ i j hi hj e. omega (arith, s.rows (suc i) (suc j) (omega arith) (omega arith) e);
}

-- The mapping has the rows asked for.
pub mapping_length : (n : ℕ) (c : List Pair) → length (mapping_of n c) ≡ n
unfolding mapping_of
mapping_length n [] = length-replicate n unmapped
mapping_length n (p ∷ c) = length-set (mapping_of n c) p.old p.new ∙ mapping_length n c

-- Each pair is an entry.
pub pair_entry : (n : ℕ) (c : List Pair) → Separate n c → (i : ℕ) → i < length c
    → get_or (mapping_of n c) (pair_at c i).old 0 ≡ (pair_at c i).new
unfolding mapping_of
pair_entry n [] s i h = absurd (not-suc-le-zero h)
pair_entry n (p ∷ c) s zero h =
    get_or-set_same (mapping_of n c) p.old p.new 0 (omega (arith, mapping_length n c, s.below 0 h))
pair_entry n (p ∷ c) s (suc i) h =
    let k : i < length c = le_of_suc-le-suc h in
    get_or-set_other (mapping_of n c) p.old (pair_at c i).old p.new 0 (λ e. omega (arith, s.rows (suc i) 0 h (omega arith) e))
    ∙ pair_entry n c (later n p c s) i k

-- Each entry is a pair.
pub entry_pair : (n : ℕ) (c : List Pair) (v : ℕ) → v < n → get_or (mapping_of n c) v 0 ≢ unmapped → (i : ℕ) × (i < length c) × ((pair_at c i).old ≡ v)
unfolding mapping_of
entry_pair n [] v h m = absurd (m (get_or-replicate n v unmapped 0 h))
entry_pair n (p ∷ c) v h m = go (ℕ_discrete v p.old) (entry_pair n c v h)
  where
    go : Dec (v ≡ p.old) → (get_or (mapping_of n c) v 0 ≢ unmapped → (i : ℕ) × (i < length c) × ((pair_at c i).old ≡ v))
        → (i : ℕ) × (i < suc (length c)) × ((pair_at (p ∷ c) i).old ≡ v)
    go (yes e) ih = (0, omega arith, sym e)
    go (no ne) ih =
        let r = ih (λ e. m (get_or-set_other (mapping_of n c) p.old v p.new 0 ne ∙ e)) in (suc r.0, omega (arith, r.1), r.2)

-- The mapping's size is the number of pairs.
pub mapping_size : (n : ℕ) (c : List Pair) → Separate n c → size (mapping_of n c) ≡ length c
unfolding mapping_of
mapping_size n [] s = size_none n
mapping_size n (p ∷ c) s =
    size_set (mapping_of n c) p.old p.new (omega (arith, mapping_length n c, s.below 0 (omega arith)))
    (free (ℕ_discrete (get_or (mapping_of n c) p.old 0) unmapped)) (s.image 0 (omega arith))
    ∙ ap suc (mapping_size n c (later n p c s))
  where
    free : Dec (get_or (mapping_of n c) p.old 0 ≡ unmapped) → get_or (mapping_of n c) p.old 0 ≡ unmapped
    free (yes e) = e
    free (no m) =
        let r = entry_pair n c p.old (s.below 0 (omega arith)) m in
        absurd (omega (arith, s.rows (suc r.0) 0 (omega (arith, r.1)) (omega arith) r.2))

-- A pair is one of the list exactly where the mapping has that entry.
pub mapping_entry : (n : ℕ) (c : List Pair) → Separate n c → (v w : ℕ)
    → Among (pair v w) c ↔ ((v < n) × (w ≢ unmapped) × (get_or (mapping_of n c) v 0 ≡ w))
mapping_entry n c s v w = (there, back)
  where
    there : Among (pair v w) c → (v < n) × (w ≢ unmapped) × (get_or (mapping_of n c) v 0 ≡ w)
    there a = (rw a.2 at (s.below a.0 a.1), rw a.2 at (s.image a.0 a.1), rw a.2 at (pair_entry n c s a.0 a.1))

    back : (v < n) × (w ≢ unmapped) × (get_or (mapping_of n c) v 0 ≡ w) → Among (pair v w) c
    back f =
        let r = entry_pair n c v f.0 (λ e. f.1 (sym f.2 ∙ e)) in
        let ew = sym (pair_entry n c s r.0 r.1) ∙ ap (λ (u : ℕ). get_or (mapping_of n c) u 0) r.2 ∙ f.2 in
        (r.0, r.1, pair_is (pair_at c r.0) v w r.2 ew)

-- ---- and back

-- The pairs of a mapping have each a row of its own.
pairs_separate : (l : List ℕ) → Separate (length l) (pairs_of l)
pairs_separate l = record {
  below = λ i h. let k = pairs_inside l i h in rw (pairs_at l i k) (x_below l i k);
  image = λ i h. let k = pairs_inside l i h in rw (pairs_at l i k) (x_mapped l i k);
  rows = λ i j hi hj e. let ki = pairs_inside l i hi in let kj = pairs_inside l j hj in x_injective l i j ki kj (rw (pairs_at l i ki, pairs_at l j kj) at e);
}

-- mappings that have the same images in the same rows are equal
same_images : (l m : List ℕ) → length l ≡ length m
    → ((v w : ℕ) → v < length l → w ≢ unmapped → (get_or l v 0 ≡ w) ↔ (get_or m v 0 ≡ w)) → l ≡ m
same_images l m long same = ext_get_or 0 l m long (λ v h. go v h (ℕ_discrete (get_or l v 0) unmapped) (ℕ_discrete (get_or m v 0) unmapped))
  where
    go : (v : ℕ) → v < length l → Dec (get_or l v 0 ≡ unmapped) → Dec (get_or m v 0 ≡ unmapped) → get_or l v 0 ≡ get_or m v 0
    go v h (no n) d = sym ((same v (get_or l v 0) h n).0 refl)
    go v h (yes e) (no n) = (same v (get_or m v 0) h n).1 refl
    go v h (yes e) (yes f) = e ∙ sym f

-- The mapping made of a mapping's pairs is that mapping.
pub pairs_mapping : (l : List ℕ) → mapping_of (length l) (pairs_of l) ≡ l
pairs_mapping l = same_images (mapping_of (length l) (pairs_of l)) l rows (λ v w h n.
    let k : v < length l = omega (arith, rows) in (
      λ e. ((pairs_entry l v w).0 ((mapping_entry (length l) (pairs_of l) (pairs_separate l) v w).1 (k, n, e))).2,
      λ e. ((mapping_entry (length l) (pairs_of l) (pairs_separate l) v w).0 ((pairs_entry l v w).1 (k, n, e))).2,
    ))
  where
    rows : length (mapping_of (length l) (pairs_of l)) ≡ length l
    rows = mapping_length (length l) (pairs_of l)

-- The mapping does not depend on the order of the pairs.
pub mapping_order : (n : ℕ) (c d : List Pair) → Separate n c → Separate n d → ((p : Pair) → Among p c ↔ Among p d) → mapping_of n c ≡ mapping_of n d
mapping_order n c d sc sd same =
    same_images (mapping_of n c) (mapping_of n d) (mapping_length n c ∙ sym (mapping_length n d)) (λ v w h m.
    let k : v < n = omega (arith, mapping_length n c) in (
      λ e. ((mapping_entry n d sd v w).0 ((same (pair v w)).0 ((mapping_entry n c sc v w).1 (k, m, e)))).2,
      λ e. ((mapping_entry n c sc v w).0 ((same (pair v w)).1 ((mapping_entry n d sd v w).1 (k, m, e)))).2,
    ))
