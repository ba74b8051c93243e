-- `mapping::check_mappings` meets its contract: where the graphs and the list pass, each mapping is checked. Assumes nothing.
use mathlib.Core.Path.{◌≡◌, ap, ap₂, sym, ◌∙◌}
use Rattle.std.proofs.lemmas.Result.{err_from_is_err_and}
use Rattle.answers.specs.Answer.{passed}
use Rattle.problem.specs.Problem.{SoundProblem, problem_answer}
use Rattle.problem.specs.Lent.{lent}
use Rattle.problem.specs.Answers.{problem_answer_of}
use Rattle.problem.proofs.ProblemPasses.{passes_problem}
use Rattle.mapping.specs.Answers.{checked}
use Rattle.mapping.specs.Check.{both_outcomes}
use Rattle.mapping.proofs.LentRows.{lent_fits, lent_list}
use Rattle.mapping.proofs.check_mappings.Goals as goal
use Rattle.mapping.proofs.check_mappings.Goals.{In_ok-check}

-- where `check` says `Ok`, the two graphs and the list pass
told_passed : (c : In_ok-check) → problem_answer (lent c.args.problem) ≡ passed
told_passed c = sym c.check.ensures ∙ ap problem_answer_of c.in_ok-check.was

told_sound : (c : In_ok-check) → SoundProblem (lent c.args.problem)
told_sound c = passes_problem (lent c.args.problem) (told_passed c)

pub check_list-requires : goal.check_list-requires
check_list-requires c = lent_fits (lent c.args.problem) (told_sound (goal.at.check_list-requires c).In_ok-check)

pub check_list-requires-2 : goal.check_list-requires-2
check_list-requires-2 c = lent_fits (lent c.args.problem) (told_sound (goal.at.check_list-requires-2 c).In_ok-check)

pub returns-in_err-check : goal.returns-in_err-check
unfolding both_outcomes
returns-in_err-check c =
    let told = err_from_is_err_and c.from_residual.result c.from_residual.ensures.1 in
    rw (told.1, told.2) (simp (sym c.check.ensures ∙ ap problem_answer_of c.in_err-check.was))

pub returns : goal.returns
unfolding both_outcomes
returns c =
    let whole = lent_list c.args.problem (told_sound (goal.at.returns c).In_ok-check) c.agreeing-agreeing.ensures in
    ap₂ checked (c.check_list.ensures ∙ whole c.args.first.now) (c.check_list-2.ensures ∙ whole c.args.second.now)
    ∙ simp (told_passed (goal.at.returns c).In_ok-check)
