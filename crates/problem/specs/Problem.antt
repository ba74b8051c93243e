-- Two graphs to be compared, and when a vertex, and then a pair of vertices, of the one may lie on the other's: 01, "Good partner lists", and 02, U1, U4.
use Rattle.std.specs.Prelude.{Bool, cond, not, ◌&&◌, List, [], ℕ, ltb, eqb}
use Rattle.answers.specs.Answer.{Answer, refused, first_refusal}
use Rattle.graph.specs.Graph.{Graph, Sound, label, edge}
use Rattle.graph.specs.Soundness.{tables_fit, soundness}
use Rattle.substitutes.specs.Substitutes.{agree}
use Rattle.substitutes.specs.Soundness.{substitutes_answer, SoundSubstitutes}

-- 01: the old chart and the new chart; 02, U1: the lent list of substitutes
pub record Problem : Type 0 where
  pub old : Graph
  pub new : Graph
  pub substitutes : List ℕ

-- two graphs with no substitutes
abbrev pub problem : Graph → Graph → Problem
problem old new = record { old = old; new = new; substitutes = [] }

-- the same two graphs with these substitutes
abbrev pub substituting : List ℕ → Problem → Problem
substituting substitutes P = record { old = P.old; new = P.new; substitutes = substitutes }

pub record SoundProblem (P : Problem) : Type 0 where
  pub old_sound : Sound P.old
  pub new_sound : Sound P.new
  pub substitutes_sound : SoundSubstitutes P.substitutes

-- document 000's μ: "paired parts have equal kinds", and since U1 "Part kinds agree when they are equal or the pair is listed"
abbrev pub compare_vertices : Problem → ℕ → ℕ → Bool
compare_vertices P v w = agree P.substitutes (label P.old v) (label P.new w)

-- document 000's ν, on the edges of v and v' and of w and w'; null edges compare only with themselves, and "link kinds must still be equal"
abbrev pub compare_edges : Problem → ℕ → ℕ → ℕ → ℕ → Bool
compare_edges P v v' w w' = eqb (edge P.old v v') (edge P.new w w')

-- the old vertex v may lie on w: w is a new vertex, the labels agree, and "paired parts need equal own links" (02, U4)
unfoldable pub allowed : Problem → ℕ → ℕ → Bool
allowed P v w = ltb w P.new.order && compare_vertices P v w && compare_edges P v v w w

-- v on w and v' on w' may stand together: two new vertices, and the edges agree
unfoldable pub consistent : Problem → ℕ → ℕ → ℕ → ℕ → Bool
consistent P v w v' w' = not (eqb w w') && compare_edges P v v' w w'

-- 10 for neither graph
abbrev pub both_fit : Problem → Bool
both_fit P = tables_fit P.old.order P.old.labels P.old.edges && tables_fit P.new.order P.new.labels P.new.edges

-- 10 for either graph comes first, then 11 and 12 of the old, then 11 and 12 of the new, then 23 and 24 of the list
unfoldable pub problem_answer : Problem → Answer
problem_answer P =
    cond (both_fit P) (first_refusal (soundness P.old) (first_refusal (soundness P.new) (substitutes_answer P.substitutes))) (refused 10)
