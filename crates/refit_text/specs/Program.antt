-- All that the refit program prints, of what it reads: 01, "The refit program".
use Rattle.std.specs.Prelude.{cond, false, List, [], ◌∷◌, ℕ, eqb, length, get_or, take, drop, replicate}
use Rattle.little_endian.specs.LittleEndian.{from_little}
use Rattle.answers.specs.Answer.{accepted, refusal_number}
use Rattle.answers.specs.Output.{Writing}
use Rattle.problem.specs.Problem.{Problem}
use Rattle.problem_reader.specs.ProblemReading.{on_outcome, read_problem}
use Rattle.checkpoint.specs.Checkpoints.{fresh_checkpoint}
use Rattle.search.specs.Call.{words_needed, search_call}
use Rattle.refit_text.specs.Report.{refused_text, report_text}

-- "nine bytes of standard input: floor, then allowance, low byte first"
abbrev pub minimum_of : List ℕ → ℕ
minimum_of input = get_or input 0 0

abbrev pub budget_of : List ℕ → ℕ
budget_of input = from_little (take 8 (drop 1 input))

-- one call of the first search, from a fresh checkpoint
unfoldable pub search_text : Problem → ℕ → ℕ → List ℕ
search_text P minimum budget =
    let r = search_call false P (fresh_checkpoint minimum) budget (replicate words_needed 0) in
    report_text P.old.order P.new.order r.answer r.checkpoint

-- "other than nine input bytes, tested first, print refused input"
abbrev pub refused_input : List ℕ
refused_input = 114 ∷ 101 ∷ 102 ∷ 117 ∷ 115 ∷ 101 ∷ 100 ∷ 32 ∷ 105 ∷ 110 ∷ 112 ∷ 117 ∷ 116 ∷ 10 ∷ []

-- what is printed of two graphs that are read, "the old file being read first"
abbrev pub graphs_text : List ℕ → List ℕ → ℕ → ℕ → List ℕ
graphs_text old new minimum budget =
    on_outcome
    (λ P. search_text P minimum budget)
    (λ refusal. refused_text (refusal_number refusal))
    (read_problem old new)

unfoldable pub refit_text : List ℕ → List ℕ → List ℕ → List ℕ
refit_text old new input = cond (eqb (length input) 9) (graphs_text old new (minimum_of input) (budget_of input)) refused_input

-- bytes that were written: how many, and the buffer afterwards
abbrev pub written : ℕ → List ℕ → Writing
written count buffer = record { answer = accepted count; buffer = buffer }
