-- What each answer of the shape test says in 01's terms (01, "Refusals by place of checking").
use Rattle.std.specs.Prelude.{Result, ℕ}
use Rattle.answers.specs.Answer.{Answer, refused, tested}
use Rattle.problem.specs.Answers.{problem_flaw_number}
use Rattle.checkpoint.specs.declared.ShapeError.{ShapeError}
use Rattle.checkpoint.specs.declared.ShapeError.TheVariants.{Flawed, OutOfShape}

abbrev pub shape_number : ShapeError → ℕ
shape_number (Flawed f) = problem_flaw_number f
shape_number OutOfShape = 14

abbrev pub shape_refusal : ShapeError → Answer
shape_refusal e = refused (shape_number e)

abbrev pub shape_answer : Result Unit ShapeError → Answer
shape_answer r = tested shape_refusal r
