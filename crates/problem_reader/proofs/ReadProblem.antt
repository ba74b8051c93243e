-- What a caller learns of two graphs that are read into tables of zeros: the graphs, which are sound, or the refusal, which has one of 01's numbers.
use mathlib.Core.Path.{◌≡◌, refl, sym, ap, ◌∙◌, subst}
use mathlib.Core.List.{List}
use Prim.Native.Nat.{ℕ, ◌≤◌}
use native.Mathlib.Omega.{arith}
use lib.ListN.{get_or, replicate}
use Rattle.answers.specs.Answer.{Answer, passed, accepted, refused, refused_at, refusal_number}
use Rattle.answers.proofs.RefusalNumbers.{RefusalNumber, Valued}
use Rattle.graph.specs.Graph.{graph}
use Rattle.std.specs.Prelude.{Ok, Err}
use Rattle.graph_reader.specs.Answers.{read_refusal}
use Rattle.graph_reader.specs.Reading.{Reading, read_graph}
use Rattle.graph_reader.specs.declared.ReadError.{ReadError}
use Rattle.graph_reader.proofs.ReadSound.{reading_sound}
use Rattle.graph_reader.proofs.RefusalNumbers.{reading_valued}
use Rattle.substitutes.proofs.SoundList.{none_sound}
use Rattle.problem.specs.Problem.{Problem, problem, SoundProblem}
use Rattle.problem_reader.specs.ProblemReading.{ReadOutcome, read, refusal, on_order, both_read, ProblemReading, reading_problem, read_problem}
use Rattle.problem_reader.specs.Answers.{BothRead, problem_reading_of}

-- what `read_problem` tells of its answer and tables, once it has read into tables of zeros
module _ (old new : List ℕ) (r : BothRead) (ol oe nl ne : List ℕ)
    (told : problem_reading_of r ol oe nl ne ≡ reading_problem (replicate 64 0) (replicate 4096 0) (replicate 64 0) (replicate 4096 0) old new)
  where
    pub problem_read : (n m : ℕ) → r ≡ Ok (n, m) → read (problem (graph n ol oe) (graph m nl ne)) ≡ read_problem old new
    unfolding read_problem
    problem_read n m e =
        ap (λ (x : BothRead). (problem_reading_of x ol oe nl ne).outcome) (sym e) ∙ ap (λ (x : ProblemReading). x.outcome) told

    pub problem_refused : (a : ReadError) → r ≡ Err a → refusal (read_refusal a) ≡ read_problem old new
    unfolding read_problem
    problem_refused a e =
        ap (λ (x : BothRead). (problem_reading_of x ol oe nl ne).outcome) (sym e) ∙ ap (λ (x : ProblemReading). x.outcome) told

-- each answer of the two readings, in turn
both_cases : (C : ReadOutcome → Type 0) (o w : Reading) → Valued o.answer → Valued w.answer
    → ((n m : ℕ) → o.answer ≡ accepted n → w.answer ≡ accepted m → C (read (problem (graph n o.labels o.edges) (graph m w.labels w.edges))))
    → ((a : Answer) → RefusalNumber (refusal_number a) → C (refusal a))
    → C (both_read o w)
both_cases C o w ho hw accept refuse = on_old o.answer refl ho
  where
    on_new : (n : ℕ) → o.answer ≡ accepted n → (a : Answer) → w.answer ≡ a → Valued a
        → C (on_order a (λ m. read (problem (graph n o.labels o.edges) (graph m w.labels w.edges))))
    on_new n e passed q h = absurd h
    on_new n e (accepted m) q h = accept n m e q
    on_new n e (refused number) q h = refuse (refused number) h
    on_new n e (refused_at number at) q h = refuse (refused_at number at) h

    on_old : (a : Answer) → o.answer ≡ a → Valued a
        → C (on_order a (λ n. on_order w.answer (λ m. read (problem (graph n o.labels o.edges) (graph m w.labels w.edges)))))
    on_old passed e h = absurd h
    on_old (accepted n) e h = on_new n e w.answer refl hw
    on_old (refused number) e h = refuse (refused number) h
    on_old (refused_at number at) e h = refuse (refused_at number at) h

-- a refusal has one of 01's numbers
abbrev pub Refusing : ReadOutcome → Type 0
Refusing (read P) = Unit {0}
Refusing (refusal a) = RefusalNumber (refusal_number a)

abbrev ReadsSound : ReadOutcome → Type 0
ReadsSound outcome = (P : Problem) → outcome ≡ read P → SoundProblem P

module _ (old new : List ℕ) where
  -- Bytes that are refused are refused by one of 01's numbers.
  pub outcome_refusing : Refusing (read_problem old new)
  unfolding read_problem reading_problem
  outcome_refusing =
      both_cases Refusing (read_graph old) (read_graph new)
      (reading_valued (replicate 64 0) (replicate 4096 0) old) (reading_valued (replicate 64 0) (replicate 4096 0) new)
      (λ n m e q. tt) (λ a h. h)

  -- Whatever is read of bytes is a problem of two sound graphs.
  pub problem_sound : ((i : ℕ) → get_or old i 0 ≤ 255) → ((i : ℕ) → get_or new i 0 ≤ 255)
      → (P : Problem) → read_problem old new ≡ read P → SoundProblem P
  unfolding read_problem reading_problem
  problem_sound small small' =
      both_cases ReadsSound (read_graph old) (read_graph new)
      (reading_valued (replicate 64 0) (replicate 4096 0) old) (reading_valued (replicate 64 0) (replicate 4096 0) new)
      (λ n m e q P p.
      let o = read_graph old in
      let w = read_graph new in
      subst SoundProblem {x = problem (graph n o.labels o.edges) (graph m w.labels w.edges)} (cc) (record {
        old_sound = reading_sound (replicate 64 0) (replicate 4096 0) old small n e;
        new_sound = reading_sound (replicate 64 0) (replicate 4096 0) new small' m q;
        substitutes_sound = none_sound;
      }))
      (λ a h P p. let z : ◌≡◌ {A = ℕ} 0 1 = cc in absurd (omega arith))
