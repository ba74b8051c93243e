-- Sets of new vertices as words, one for each old vertex: those whose labels agree with its own, which the check asks for (02, U1, "Candidates, the list
-- check and good matching read this rule"), and those that it may lie on (02, U4, "Own links enter the first candidate sets").
use Rattle.std.specs.Prelude.{◌≡◌, cond, ◌&&◌, List, ℕ, ◌<◌, ltb, length, get_or}
use Rattle.bitset.specs.Members.{set_of, meet_of}
use Rattle.graph.specs.Graph.{place}
use Rattle.problem.specs.Problem.{Problem, compare_vertices, compare_edges, allowed}
use Rattle.problem.specs.declared.Problem.{Problem as LentProblem}
use Rattle.problem.specs.Lent.{lent}

pub record VertexSets (P : Problem) (words : List ℕ) : Type 0 where
  pub entries : length words ≡ 64
  pub word : (v : ℕ) → v < P.old.order → get_or words v 0 ≡ set_of 64 (λ w. ltb w P.new.order && compare_vertices P v w)

pub record AllowedSets (P : Problem) (words : List ℕ) : Type 0 where
  pub entries : length words ≡ 64
  pub word : (v : ℕ) → v < P.old.order → get_or words v 0 ≡ set_of 64 (allowed P v)

-- the edges of the first 64 numbers with themselves, null past the end of the table
pub record Diagonal (edges own : List ℕ) : Type 0 where
  pub entries : length own ≡ 64
  pub edge : (v : ℕ) → v < 64 → get_or own v 0 ≡ get_or edges (place v v) 0

-- each word of 64 meets the other list's
pub record MetAll (first second words : List ℕ) : Type 0 where
  pub entries : length words ≡ 64
  pub word : (v : ℕ) → v < 64 → get_or words v 0 ≡ meet_of (get_or first v 0) (get_or second v 0)

-- for each of the first 64 places of the old labels, those of the new labels that agree and whose numbers have the same edge with themselves, and nothing
-- past the last: of any tables; for a sound problem these are the `AllowedSets`
pub record Allowing (p : LentProblem) (words : List ℕ) : Type 0 where
  pub entries : length words ≡ 64
  pub word : (v : ℕ) → v < 64 → get_or words v 0 ≡ cond (ltb v (length p.old.labels.now))
      (set_of 64 (λ w. ltb w (length p.new.labels.now)
      && compare_vertices (lent p) v w && compare_edges (lent p) v v w w)) 0
