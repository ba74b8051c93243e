-- Loading refuses by one of 01's numbers, as reading a graph does (graph_reader's RefusalNumbers).
use mathlib.Core.Bool.{Bool}
use mathlib.Core.List.{List}
use Rattle.std.specs.Prelude.{Option, Some, None}
use Prim.Native.Nat.{ℕ}
use native.Mathlib.Omega.{arith}
use Rattle.answers.specs.Answer.{Answer, passed, accepted, refused, refused_at, when_passed}
use Rattle.answers.proofs.Choice.{either}
use Rattle.answers.proofs.RefusalNumbers.{Plain}
use Rattle.problem.specs.Problem.{Problem, problem_answer}
use Rattle.problem.proofs.ProblemPasses.{problem_plain}
use Rattle.checkpoint.specs.Checkpoints.{in_shape}
use Rattle.checkpoint_loader.specs.Form.{form_fault}
use Rattle.checkpoint_loader.specs.Loading.{Loading, said, refuse as refuse_load, on_form, loading}

-- Loading passes, or refuses by such a number.
pub loading_plain : (connected : Bool) (P : Problem) (bytes : List ℕ) → Plain (loading connected P bytes).answer
unfolding loading
loading_plain connected P bytes = go (problem_answer P) (problem_plain P) (form_fault P.old.order bytes)
  where
    go : (a : Answer) → Plain a → (fault : Option ℕ) → Plain (when_passed a (on_form connected P bytes fault) refuse_load).answer
    go passed h None = either (λ (l : Loading). Plain l.answer) (in_shape connected P (said P.old.order bytes)) tt (omega arith)
    go passed h (Some at) = omega arith
    go (accepted n) h fault = absurd h
    go (refused n) h fault = h
    go (refused_at n at) h fault = h
