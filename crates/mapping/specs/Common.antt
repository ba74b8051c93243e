-- When a mapping is a common subgraph, as document 000 states it in formula (1): 01, "Good partner lists", and 02, U4.
-- 01 calls a mapping a partner list, and one that is a common subgraph good.
use Rattle.std.specs.Prelude.{◌≡◌, true, cond, List, [], ◌∷◌, ℕ, suc, ◌<◌, eqb, length, get_or}
use Rattle.problem.specs.Problem.{Problem, compare_vertices, compare_edges, allowed, consistent}

-- "255 for left out"
abbrev pub unmapped : ℕ
unmapped = 255

unfoldable pub mapped_from : ℕ → List ℕ → List ℕ
mapped_from v [] = []
mapped_from v (w ∷ l) = let rest = mapped_from (suc v) l in cond (eqb w unmapped) rest (v ∷ rest)

-- the mapped old vertices, rising
abbrev pub mapped : List ℕ → List ℕ
mapped l = mapped_from 0 l

-- "Size is the number of pairs"
abbrev pub size : List ℕ → ℕ
size l = length (mapped l)

-- the numbered sets X = x(0), .. x(k - 1) of mapped old vertices and Y = y(0), .. y(k - 1) of their images, k = size l
abbrev pub x : List ℕ → ℕ → ℕ
x l i = get_or (mapped l) i 0

abbrev pub y : List ℕ → ℕ → ℕ
y l i = get_or l (x l i) 0

-- "The list is good when no new part comes twice, paired parts have equal kinds, and any two paired old parts have the same link value as
-- their partners." Since 02, U1, kinds need only agree; since 02, U4, it is all of formula (1), which "covers a part with itself".
pub record Common (P : Problem) (l : List ℕ) : Type 0 where
  -- one entry for each old vertex
  pub entries : length l ≡ P.old.order
  -- an image is a new vertex
  pub image : (i : ℕ) → i < size l → y l i < P.new.order
  pub injective : (i j : ℕ) → i < size l → j < size l → y l i ≡ y l j → i ≡ j
  pub vertices : (i : ℕ) → i < size l → compare_vertices P (x l i) (y l i) ≡ true
  pub edges : (i j : ℕ) → i < size l → j < size l → compare_edges P (x l i) (x l j) (y l i) (y l j) ≡ true

-- the same, row by row: each mapped row is allowed, and each two mapped rows are consistent
pub record Pairwise (P : Problem) (l : List ℕ) : Type 0 where
  pub entries : length l ≡ P.old.order
  pub alone : (v : ℕ) → v < length l → (get_or l v 0 ≡ unmapped → ⊥) → allowed P v (get_or l v 0) ≡ true
  pub together : (u v : ℕ) → u < v → v < length l → (get_or l u 0 ≡ unmapped → ⊥) → (get_or l v 0 ≡ unmapped → ⊥)
      → consistent P u (get_or l u 0) v (get_or l v 0) ≡ true
