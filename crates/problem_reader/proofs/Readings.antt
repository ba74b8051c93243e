-- What two readings say together, arm by arm: tables that do not fit, both orders, or the refusal of the first graph that is refused.
use mathlib.Core.Path.{◌≡◌, refl, sym, ap, ◌∙◌}
use mathlib.Core.Bool.{true, false}
use mathlib.Core.List.{List}
use Prim.Native.Nat.{ℕ}
use Rattle.std.specs.Prelude.{Result, Ok, Err}
use Rattle.graph.specs.Soundness.{tables_fit}
use Rattle.graph_reader.specs.Answers.{read_refusal}
use Rattle.graph_reader.specs.Reading.{Reading, reading_of, reading}
use Rattle.graph_reader.specs.declared.ReadError.{ReadError}
use Rattle.problem_reader.specs.ProblemReading.{ReadOutcome, refusal, on_order, both_read, ProblemReading, reading_problem}
use Rattle.problem_reader.specs.Answers.{BothRead, problem_reading_of}

-- a refusal is handed on
refused_answer : (e : ReadError) (f : ℕ → ReadOutcome) → refusal (read_refusal e) ≡ on_order (read_refusal e) f
refused_answer ReadError.Tables f = refl
refused_answer (ReadError.Faulty fault at) f = refl

-- the readings of the old and of the new bytes, as a whole
abbrev whole : Reading → Reading → ProblemReading
whole old new =
    record {
      outcome = both_read old new;
      old_labels = old.labels;
      old_edges = old.edges;
      new_labels = new.labels;
      new_edges = new.edges;
    }

-- tables of a wrong length are refused first, and stay as they are
module _ (ol oe nl ne old new : List ℕ) where
  pub old_unfit : tables_fit 0 ol oe ≡ false → problem_reading_of (Err ReadError.Tables) ol oe nl ne ≡ reading_problem ol oe nl ne old new
  unfolding reading_problem
  old_unfit e = simp e

  pub new_unfit : tables_fit 0 ol oe ≡ true → tables_fit 0 nl ne ≡ false
      → problem_reading_of (Err ReadError.Tables) ol oe nl ne ≡ reading_problem ol oe nl ne old new
  unfolding reading_problem
  new_unfit e f = simp (e, f)

-- both tables of each graph before, its bytes, what `read_graph` says of them, and both tables after
module _
    (ol oe nl ne old new : List ℕ) (o w : Result ℕ ReadError) (ol' oe' nl' ne' : List ℕ)
    (old_fits : tables_fit 0 ol oe ≡ true) (new_fits : tables_fit 0 nl ne ≡ true)
    (old_read : reading_of o ol' oe' ≡ reading ol oe old) (new_read : reading_of w nl' ne' ≡ reading nl ne new)
  where
    abbrev after : BothRead → ProblemReading
    after r = problem_reading_of r ol' oe' nl' ne'

    whole_read : whole (reading_of o ol' oe') (reading_of w nl' ne') ≡ reading_problem ol oe nl ne old new
    unfolding reading_problem
    whole_read =
        ap (λ (r : Reading). whole r (reading_of w nl' ne')) old_read ∙ ap (whole (reading ol oe old)) new_read ∙ simp (old_fits, new_fits)

    -- what the tables hold stays as it is, whatever the outcome
    abbrev outcome : ReadOutcome → ProblemReading
    outcome x = record { outcome = x; old_labels = ol'; old_edges = oe'; new_labels = nl'; new_edges = ne' }

    pub orders_read : (n m : ℕ) → o ≡ Ok n → w ≡ Ok m → after (Ok (n, m)) ≡ reading_problem ol oe nl ne old new
    orders_read n m p q =
        ap (λ (a : Result ℕ ReadError). whole (reading_of a ol' oe') (reading_of (Ok m) nl' ne')) (sym p)
        ∙ ap (λ (a : Result ℕ ReadError). whole (reading_of o ol' oe') (reading_of a nl' ne')) (sym q)
        ∙ whole_read

    pub new_refused : (n : ℕ) (e : ReadError) → o ≡ Ok n → w ≡ Err e → after (Err e) ≡ reading_problem ol oe nl ne old new
    new_refused n e p q =
        ap outcome (refused_answer e _)
        ∙ ap (λ (a : Result ℕ ReadError). whole (reading_of a ol' oe') (reading_of (Err e) nl' ne')) (sym p)
        ∙ ap (λ (a : Result ℕ ReadError). whole (reading_of o ol' oe') (reading_of a nl' ne')) (sym q)
        ∙ whole_read

    pub old_refused : (e : ReadError) → o ≡ Err e → after (Err e) ≡ reading_problem ol oe nl ne old new
    old_refused e p =
        ap outcome (refused_answer e _)
        ∙ ap (λ (a : Result ℕ ReadError). whole (reading_of a ol' oe') (reading_of w nl' ne')) (sym p)
        ∙ whole_read
