-- In sound graphs without edges of vertices with themselves the common subgraphs are those of the rule before 02, U4.
use mathlib.Core.Path.{◌≡◌, refl}
use mathlib.Core.Logic.{◌↔◌}
use mathlib.Core.Bool.{true}
use mathlib.Core.List.{List}
use Prim.Native.Nat.{ℕ, ◌<◌}
use native.Mathlib.Decide.{ℕ_discrete}
use lib.ListN.{get_or}
use Rattle.bounded.specs.First.{first_below}
use Rattle.problem.specs.Problem.{Problem, SoundProblem, compare_vertices, compare_edges}
use Rattle.problem.specs.OwnEdges.{WithoutOwnEdges}
use Rattle.problem.proofs.OwnEdges.{own_agree}
use Rattle.mapping.specs.Common.{Common, size, x, y}
use Rattle.mapping.specs.Apart.{CommonApart}
use Rattle.mapping.specs.Check.{clash, row_by, row_fault}

pub common_apart : (P : Problem) (l : List ℕ) → SoundProblem P → WithoutOwnEdges P → Common P l ↔ CommonApart P l
common_apart P l s none = (
  λ c. record {
    entries = c.entries;
    image = c.image;
    injective = c.injective;
    vertices = c.vertices;
    edges = λ i j hi hj apart. c.edges i j hi hj;
  },
  λ c. record {
    entries = c.entries;
    image = c.image;
    injective = c.injective;
    vertices = c.vertices;
    edges = λ i j hi hj. edges c i j hi hj (ℕ_discrete i j);
  },
)
  where
    edges : CommonApart P l → (i j : ℕ) → i < size l → j < size l → Dec (i ≡ j) → compare_edges P (x l i) (x l j) (y l i) (y l j) ≡ true
    edges c i j hi hj (yes q) = rw (← q) (own_agree P s none (x l i) (y l i))
    edges c i j hi hj (no apart) = c.edges i j hi hj apart

-- And the check finds of each row what it found: 19, 21, and then 20 and 22 against the earlier rows.
pub row_apart : (P : Problem) (l : List ℕ) → SoundProblem P → WithoutOwnEdges P → (v : ℕ)
    → row_fault P l v ≡ row_by P.new.order (compare_vertices P v) (first_below v (clash P l v)) l v
unfolding row_fault
row_apart P l s none v = rw (own_agree P s none v (get_or l v 0)) refl
