-- What each answer of the check says in 01's terms: the size, or a refusal's number with its rows (01, "Refusals by place of checking").
use Rattle.std.specs.Prelude.{Result, Ok, Err, ℕ}
use Rattle.answers.specs.Answer.{Answer}
use Rattle.answers.specs.Answer as answer
use Rattle.problem.specs.declared.ProblemFlaw.{ProblemFlaw}
use Rattle.problem.specs.Answers.{problem_flaw_number, problem_refusal}
use Rattle.mapping.specs.declared.MappingError.{MappingError}
use Rattle.mapping.specs.declared.MappingError.TheVariants.{Flawed, Length, NoVertex, SameImage, LabelsDisagree, EdgesDiffer}

pub data Outcome : Type 0 where
  accepted : ℕ → Outcome
  refused : ℕ → Outcome
  -- number, then row
  refused_row : ℕ → ℕ → Outcome
  -- number, row, then the earlier row, or the same row where it is held against itself (02, U4)
  refused_rows : ℕ → ℕ → ℕ → Outcome

-- what the check of two lists says: the graphs' refusal, or each list's outcome
pub data Outcomes : Type 0 where
  flawed : Answer → Outcomes
  checked : Outcome → Outcome → Outcomes

-- the number of a refusal, or 0
abbrev pub outcome_number : Outcome → ℕ
outcome_number (accepted n) = 0
outcome_number (refused number) = number
outcome_number (refused_row number row) = number
outcome_number (refused_rows number row earlier) = number

-- an outcome without the earlier row
abbrev pub outcome_answer : Outcome → Answer
outcome_answer (accepted n) = answer.accepted n
outcome_answer (refused number) = answer.refused number
outcome_answer (refused_row number row) = answer.refused_at number row
outcome_answer (refused_rows number row earlier) = answer.refused_at number row

abbrev pub fault_outcome : MappingError → Outcome
fault_outcome (Flawed f) = refused (problem_flaw_number f)
fault_outcome Length = refused 18
fault_outcome (NoVertex r) = refused_row 19 r.0
fault_outcome (SameImage r e) = refused_rows 20 r.0 e.0
fault_outcome (LabelsDisagree r) = refused_row 21 r.0
fault_outcome (EdgesDiffer r e) = refused_rows 22 r.0 e.0

abbrev pub mapping_refusal : MappingError → Answer
mapping_refusal e = outcome_answer (fault_outcome e)

abbrev pub mapping_outcome : Result ℕ MappingError → Outcome
mapping_outcome (Ok n) = accepted n
mapping_outcome (Err e) = fault_outcome e

abbrev pub mappings_outcome : Result (Result ℕ MappingError × Result ℕ MappingError) ProblemFlaw → Outcomes
mappings_outcome (Err f) = flawed (problem_refusal f)
mappings_outcome (Ok both) = checked (mapping_outcome both.0) (mapping_outcome both.1)
