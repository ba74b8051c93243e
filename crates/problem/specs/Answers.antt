-- What each answer about a problem says in the documents' terms (01, "Refusals by place of checking"; 02, U1).
use Rattle.std.specs.Prelude.{Result, ℕ}
use Rattle.answers.specs.Answer.{Answer, refused, tested}
use Rattle.graph.specs.Answers.{flaw_number}
use Rattle.substitutes.specs.Answers.{substitutes_number}
use Rattle.problem.specs.declared.ProblemFlaw.{ProblemFlaw}
use Rattle.problem.specs.declared.ProblemFlaw.TheVariants.{Graph, Substitutes}

-- 10, 11 and 12 of a graph, 23 and 24 of the list
abbrev pub problem_flaw_number : ProblemFlaw → ℕ
problem_flaw_number (Graph f) = flaw_number f
problem_flaw_number (Substitutes f) = substitutes_number f

abbrev pub problem_refusal : ProblemFlaw → Answer
problem_refusal f = refused (problem_flaw_number f)

abbrev pub problem_answer_of : Result Unit ProblemFlaw → Answer
problem_answer_of r = tested problem_refusal r
