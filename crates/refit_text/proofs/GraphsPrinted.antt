-- What is printed of two graphs, by the answer of reading them; and an old order that is read is at most 64.
use mathlib.Core.Path.{◌≡◌, sym, ap}
use mathlib.Core.List.{List}
use Prim.Native.Nat.{ℕ, ◌≤◌}
use native.Mathlib.Omega.{arith}
use mir.Syntax.{w8}
use mir.Val.{Fits}
use lib.ListN.{get_or, replicate}
use Rattle.std.specs.Prelude.{Ok, Err}
use Rattle.answers.specs.Answer.{refusal_number}
use Rattle.graph.specs.Graph.{graph}
use Rattle.graph_reader.specs.declared.ReadError.{ReadError}
use Rattle.graph_reader.specs.Answers.{read_refusal}
use Rattle.problem.specs.Problem.{Problem, problem}
use Rattle.problem_reader.specs.ProblemReading.{ReadOutcome, on_outcome, reading_problem}
use Rattle.problem_reader.specs.Answers.{BothRead, problem_reading_of}
use Rattle.problem_reader.proofs.ReadProblem.{problem_read, problem_refused, problem_sound}
use Rattle.refit_text.specs.Report.{refused_text}
use Rattle.refit_text.specs.Program.{search_text, graphs_text}

-- what `read_problem` says of the bytes of both graphs, and the four tables afterwards
pub record Read (old new : List ℕ) : Type 0 where
  pub answer : BothRead
  pub old_labels : List ℕ
  pub old_edges : List ℕ
  pub new_labels : List ℕ
  pub new_edges : List ℕ
  pub told : problem_reading_of answer old_labels old_edges new_labels new_edges
      ≡ reading_problem (replicate 64 0) (replicate 4096 0) (replicate 64 0) (replicate 4096 0) old new

module _ {old new : List ℕ} (r : Read old new) where
  -- the graphs of the tables, with these orders
  abbrev pub graphs : ℕ → ℕ → Problem
  graphs n m = problem (graph n r.old_labels r.old_edges) (graph m r.new_labels r.new_edges)

  pub order_max : ((i : ℕ) → Fits w8 (get_or old i 0)) → ((i : ℕ) → Fits w8 (get_or new i 0)) → (n m : ℕ) → r.answer ≡ Ok (n, m) → n ≤ 64
  order_max small small' n m e =
      (problem_sound old new (λ i. omega (arith, small i)) (λ i. omega (arith, small' i)) (graphs n m)
      (sym (problem_read old new r.answer _ _ _ _ r.told n m e))).old_sound.order_max

  module _ (minimum budget : ℕ) where
    abbrev printed : ReadOutcome → List ℕ
    printed = on_outcome (λ P. search_text P minimum budget) (λ refusal. refused_text (refusal_number refusal))

    pub print_graphs : (n m : ℕ) → r.answer ≡ Ok (n, m) → search_text (graphs n m) minimum budget ≡ graphs_text old new minimum budget
    print_graphs n m e = ap printed (problem_read old new r.answer _ _ _ _ r.told n m e)

    pub print_refusal : (a : ReadError) → r.answer ≡ Err a
        → refused_text (refusal_number (read_refusal a)) ≡ graphs_text old new minimum budget
    print_refusal a e = ap printed (problem_refused old new r.answer _ _ _ _ r.told a e)
