-- What each answer of the step limit says in the documents' terms: the limit, or 26 (02, U5).
use Rattle.std.specs.Prelude.{Result, ℕ}
use Rattle.answers.specs.Answer.{Answer, refused, counted}
use Rattle.step_limit.specs.declared.LimitError.{LimitError}
use Rattle.step_limit.specs.declared.LimitError.TheVariants as limit

abbrev pub limit_refusal : LimitError → Answer
limit_refusal limit.ManyVertices = refused 26

abbrev pub limit_answer_of : Result ℕ LimitError → Answer
limit_answer_of r = counted limit_refusal r
