-- Two graphs read from their bytes, "the old file being read first" (01, "The refit program").
use Rattle.std.specs.Prelude.{cond, ◌&&◌, List, ℕ, replicate}
use Rattle.answers.specs.Answer.{Answer, refused, when_accepted}
use Rattle.graph.specs.Graph.{graph}
use Rattle.graph.specs.Soundness.{tables_fit}
use Rattle.graph_reader.specs.Reading.{Reading, reading}
use Rattle.problem.specs.Problem.{Problem, problem}

-- both graphs, or the refusal of the first that is refused
pub data ReadOutcome : Type 0 where
  read : Problem → ReadOutcome
  refusal : Answer → ReadOutcome

-- what each of the two makes
abbrev pub on_outcome : {A : Type 0} → (Problem → A) → (Answer → A) → ReadOutcome → A
on_outcome p r (read P) = p P
on_outcome p r (refusal answer) = r answer

-- what follows on a graph's order; any other answer is a refusal, handed on as it is (`passed` is no answer of reading)
abbrev pub on_order : Answer → (ℕ → ReadOutcome) → ReadOutcome
on_order answer next = when_accepted answer next refusal

-- what the readings of the old and of the new bytes say together
abbrev pub both_read : Reading → Reading → ReadOutcome
both_read old new =
    on_order old.answer (λ n. on_order new.answer (λ m.
    read (problem (graph n old.labels old.edges) (graph m new.labels new.edges))))

-- the outcome, and the four tables afterwards
pub record ProblemReading : Type 0 where
  pub outcome : ReadOutcome
  pub old_labels : List ℕ
  pub old_edges : List ℕ
  pub new_labels : List ℕ
  pub new_edges : List ℕ

-- 10 comes first, for the tables of either graph, and leaves all four untouched
unfoldable pub reading_problem : List ℕ → List ℕ → List ℕ → List ℕ → List ℕ → List ℕ → ProblemReading
reading_problem old_labels old_edges new_labels new_edges old_bytes new_bytes =
    let old = reading old_labels old_edges old_bytes in
    let new = reading new_labels new_edges new_bytes in
    cond (tables_fit 0 old_labels old_edges && tables_fit 0 new_labels new_edges)
    (record {
      outcome = both_read old new;
      old_labels = old.labels;
      old_edges = old.edges;
      new_labels = new.labels;
      new_edges = new.edges;
    })
    (record {
      outcome = refusal (refused 10);
      old_labels = old_labels;
      old_edges = old_edges;
      new_labels = new_labels;
      new_edges = new_edges;
    })

-- into tables that are all 0
unfoldable pub read_problem : List ℕ → List ℕ → ReadOutcome
read_problem old_bytes new_bytes =
    (reading_problem (replicate 64 0) (replicate 4096 0) (replicate 64 0) (replicate 4096 0) old_bytes new_bytes).outcome
