-- `problem::Problem::check` meets its contract: at each return the answers that led there say what `problem_answer` computes to.
-- Assumes nothing.
use mathlib.Core.Path.{ap, sym, ◌∙◌}
use Rattle.std.proofs.lemmas.Result.{err_from_is_err_and}
use Rattle.graph.specs.Answers.{soundness_answer}
use Rattle.substitutes.specs.Answers.{substitutes_answer_of}
use Rattle.problem.specs.Problem.{problem_answer}
use Rattle.problem.proofs.Problem.check.Goals as goal

pub returns-then-not-both_fit : goal.returns-then-not-both_fit
unfolding problem_answer
returns-then-not-both_fit c = simp (sym c.both_fit.ensures ∙ c.if-not-both_fit.true)

pub returns-in_err-check : goal.returns-in_err-check
unfolding problem_answer
returns-in_err-check c =
    let told = err_from_is_err_and c.from_residual.result c.from_residual.ensures.1 in
    rw (told.1, told.2) (simp (sym c.both_fit.ensures ∙ c.if-not-both_fit.false, sym c.check.ensures ∙ ap soundness_answer c.in_err-check.was))

pub returns-in_err-check-2 : goal.returns-in_err-check-2
unfolding problem_answer
returns-in_err-check-2 c =
    let told = err_from_is_err_and c.from_residual-in_err-check-2.result c.from_residual-in_err-check-2.ensures.1 in
    rw (told.1, told.2)
    (simp (
      sym c.both_fit.ensures ∙ c.if-not-both_fit.false,
      sym c.check.ensures ∙ ap soundness_answer c.in_ok-check.was,
      sym c.check-2.ensures ∙ ap soundness_answer c.in_err-check-2.was,
    ))

pub returns-in_err-check_substitutes : goal.returns-in_err-check_substitutes
unfolding problem_answer
returns-in_err-check_substitutes c =
    let told = err_from_is_err_and c.from_residual-in_err-check_substitutes.result c.from_residual-in_err-check_substitutes.ensures.1 in
    rw (told.1, told.2)
    (simp (
      sym c.both_fit.ensures ∙ c.if-not-both_fit.false,
      sym c.check.ensures ∙ ap soundness_answer c.in_ok-check.was,
      sym c.check-2.ensures ∙ ap soundness_answer c.in_ok-check-2.was,
      sym c.check_substitutes.ensures ∙ ap substitutes_answer_of c.in_err-check_substitutes.was,
    ))

pub returns : goal.returns
unfolding problem_answer
returns c =
    simp (
      sym c.both_fit.ensures ∙ c.if-not-both_fit.false,
      sym c.check.ensures ∙ ap soundness_answer c.in_ok-check.was,
      sym c.check-2.ensures ∙ ap soundness_answer c.in_ok-check-2.was,
      sym c.check_substitutes.ensures ∙ ap substitutes_answer_of c.in_ok-check_substitutes.was,
    )
