-- A checkpoint passes its check exactly where the graphs and the list are sound and it is in shape; a refusal has a number of the documents' and no place.
use mathlib.Core.Path.{◌≡◌, refl}
use mathlib.Core.Bool.{Bool, true, false, cond, true≢false}
use native.Mathlib.Omega.{arith}
use Rattle.answers.specs.Answer.{passed, refused}
use Rattle.answers.proofs.Choice.{either}
use Rattle.answers.proofs.RefusalNumbers.{Plain}
use Rattle.answers.proofs.FirstRefusal.{both_passed, first_plain}
use Rattle.problem.specs.Problem.{Problem, SoundProblem, problem_answer}
use Rattle.problem.proofs.ProblemPasses.{problem_passes, passes_problem, problem_plain}
use Rattle.checkpoint.specs.declared.Checkpoint.{Checkpoint}
use Rattle.checkpoint.specs.Checkpoints.{InShape, in_shape}
use Rattle.checkpoint.specs.Checking.{checkpoint_answer}
use Rattle.checkpoint.proofs.ShapeTest.{shape_test}

pub shape_passes : (connected : Bool) (P : Problem) (c : Checkpoint) → SoundProblem P → InShape connected P c → checkpoint_answer connected P c ≡ passed
unfolding checkpoint_answer
shape_passes connected P c sound shape = rw (problem_passes P sound, (shape_test P sound connected c).1 shape)

pub passes_shape : (connected : Bool) (P : Problem) (c : Checkpoint) → checkpoint_answer connected P c ≡ passed → SoundProblem P × InShape connected P c
unfolding checkpoint_answer
passes_shape connected P c e =
    let both = both_passed (problem_answer P) _ e in
    let sound = passes_problem P both.0 in
    (sound, (shape_test P sound connected c).0 (tested (in_shape connected P c) both.1))
  where
    tested : (t : Bool) → cond t passed (refused 14) ≡ passed → t ≡ true
    tested true e = refl
    tested false e = absurd (true≢false (cc))

pub checkpoint_plain : (connected : Bool) (P : Problem) (c : Checkpoint) → Plain (checkpoint_answer connected P c)
unfolding checkpoint_answer
checkpoint_plain connected P c = first_plain (problem_answer P) _ (problem_plain P) (either Plain (in_shape connected P c) tt (omega arith))
