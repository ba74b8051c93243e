-- Whether a checkpoint is in shape for a problem and one of the two searches: 01, the rows "Tables lent", "Chart sound" and "Bookmark" of the refusals, and 02,
-- U1, between the last two, and U7.
use Rattle.std.specs.Prelude.{Bool, cond}
use Rattle.answers.specs.Answer.{Answer, passed, refused, first_refusal}
use Rattle.problem.specs.Problem.{Problem, problem_answer}
use Rattle.checkpoint.specs.declared.Checkpoint.{Checkpoint}
use Rattle.checkpoint.specs.Checkpoints.{in_shape}

-- 10, 11, 12, 23 and 24; then 14
unfoldable pub checkpoint_answer : Bool → Problem → Checkpoint → Answer
checkpoint_answer connected P c = first_refusal (problem_answer P) (cond (in_shape connected P c) passed (refused 14))
