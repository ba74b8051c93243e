-- `clique::branch` meets its contract: where the graphs and the list pass and the old graph is small, the search by what is lent is the problem's own.
-- Assumes nothing.
use mathlib.Core.Path.{◌≡◌, ap, sym, ◌∙◌}
use native.Mathlib.Omega.{arith}
use borrow.Author.Tests.{le-leb, lt-leb}
use Rattle.std.proofs.lemmas.Result.{err_from_is_err_and}
use Rattle.answers.specs.Answer.{passed}
use Rattle.problem.specs.Problem.{SoundProblem, problem_answer}
use Rattle.problem.specs.Lent.{lent}
use Rattle.problem.specs.Answers.{problem_answer_of}
use Rattle.problem.proofs.ProblemPasses.{passes_problem}
use Rattle.clique.specs.Branching.{branch}
use Rattle.clique.specs.Carried.{incumbent_as}
use Rattle.clique.specs.Call.{clique_answer, clique_call}
use Rattle.clique.proofs.Carried.{held_called}
use Rattle.clique.proofs.LentRules.{lent_small, lent_branch}
use Rattle.clique.proofs.branch.Goals as goal
use Rattle.clique.proofs.branch.Goals.{In_ok-check}

-- where `check` says `Ok`, the two graphs and the list pass
told_passed : (c : In_ok-check) → problem_answer (lent c.args.problem) ≡ passed
told_passed c = sym c.check.ensures ∙ ap problem_answer_of c.in_ok-check.was

told_sound : (c : In_ok-check) → SoundProblem (lent c.args.problem)
told_sound c = passes_problem (lent c.args.problem) (told_passed c)

pub returns-in_err-check : goal.returns-in_err-check
unfolding clique_call clique_answer
returns-in_err-check c =
    let told = err_from_is_err_and c.from_residual.result c.from_residual.ensures.1 in
    rw (told.1, told.2) (simp (sym c.check.ensures ∙ ap problem_answer_of c.in_err-check.was))

pub returns-then-problem-gt-MAX_OLD : goal.returns-then-problem-gt-MAX_OLD
unfolding clique_call clique_answer
returns-then-problem-gt-MAX_OLD c =
    let p = c.args.problem in
    simp (told_passed (goal.at.returns-then-problem-gt-MAX_OLD c).In_ok-check, lt-leb p.old.order 8 (omega (arith, c.if-problem-gt-MAX_OLD.true)))

pub invariant_of-allowed : goal.invariant_of-allowed
invariant_of-allowed c =
    record { small = lent_small c.args.problem (told_sound (goal.at.invariant_of-allowed c).In_ok-check) c.allowed_sets-sets.ensures (omega (arith, c.if-problem-gt-MAX_OLD.false)) }

pub returns : goal.returns
unfolding clique_call clique_answer
returns c =
    let p = c.args.problem in
    let same = lent_branch p (told_sound (goal.at.returns c).In_ok-check) c.allowed_sets-sets.ensures c.args.minimum in
    held_called c.args.minimum (branch (lent p) c.args.minimum) (c.branch-held.ensures ∙ ap (incumbent_as c.args.minimum) same)
    ∙ simp (told_passed (goal.at.returns c).In_ok-check, le-leb p.old.order 8 (omega (arith, c.if-problem-gt-MAX_OLD.false)))
