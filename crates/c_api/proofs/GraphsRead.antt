-- What a call learns of the two graphs that it reads into tables of its own.
use mathlib.Core.Path.{◌≡◌}
use mathlib.Core.List.{List}
use Prim.Native.Nat.{ℕ}
use lib.ListN.{replicate}
use Rattle.std.specs.Prelude.{Ok, Err}
use Rattle.graph.specs.Graph.{graph}
use Rattle.graph_reader.specs.declared.ReadError.{ReadError}
use Rattle.graph_reader.specs.Answers.{read_refusal}
use Rattle.problem.specs.Problem.{problem}
use Rattle.problem_reader.specs.ProblemReading.{read, refusal, reading_problem, read_problem}
use Rattle.problem_reader.specs.Answers.{BothRead, problem_reading_of}
use Rattle.problem_reader.proofs.ReadProblem.{problem_read, problem_refused}
use Rattle.c_api.specs.declared.graphs.Graphs.{Graphs}
use Rattle.c_api.specs.Graphs.{IsEmpty}

module _ (old new : List ℕ) {before after : Graphs} (empty : IsEmpty before) (r : BothRead)
    (told : problem_reading_of r after.old_labels after.old_edges after.new_labels after.new_edges
    ≡ reading_problem before.old_labels before.old_edges before.new_labels before.new_edges old new)
  where
    from_empty : problem_reading_of r after.old_labels after.old_edges after.new_labels after.new_edges
        ≡ reading_problem (replicate 64 0) (replicate 4096 0) (replicate 64 0) (replicate 4096 0) old new
    from_empty = rw (empty.old_labels, empty.old_edges, empty.new_labels, empty.new_edges) at told

    pub graphs_refused : (e : ReadError) → r ≡ Err e → refusal (read_refusal e) ≡ read_problem old new
    graphs_refused = problem_refused old new r after.old_labels after.old_edges after.new_labels after.new_edges from_empty

    pub graphs_read : (n m : ℕ) → r ≡ Ok (n, m)
        → read (problem (graph n after.old_labels after.old_edges) (graph m after.new_labels after.new_edges)) ≡ read_problem old new
    graphs_read = problem_read old new r after.old_labels after.old_edges after.new_labels after.new_edges from_empty
