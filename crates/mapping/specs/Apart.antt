-- The rule before 02, U4: 01, "Good partner lists", "formula (1) of source document 000 for two different parts", which compares no edge of a vertex with itself.
use Rattle.std.specs.Prelude.{◌≡◌, true, List, ℕ, ◌<◌, length}
use Rattle.problem.specs.Problem.{Problem, compare_vertices, compare_edges}
use Rattle.mapping.specs.Common.{size, x, y}

pub record CommonApart (P : Problem) (l : List ℕ) : Type 0 where
  pub entries : length l ≡ P.old.order
  pub image : (i : ℕ) → i < size l → y l i < P.new.order
  pub injective : (i j : ℕ) → i < size l → j < size l → y l i ≡ y l j → i ≡ j
  pub vertices : (i : ℕ) → i < size l → compare_vertices P (x l i) (y l i) ≡ true
  pub edges : (i j : ℕ) → i < size l → j < size l → (i ≡ j → ⊥) → compare_edges P (x l i) (x l j) (y l i) (y l j) ≡ true
