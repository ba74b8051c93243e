-- `search::search` meets its contract: the tests come in the order of the call's refusals, and an accepted call is advanced over the words
-- that it needs (`CallRefusals`). Assumes nothing.
use mathlib.Core.Path.{◌≡◌, sym, ap, ◌∙◌}
use mathlib.Core.Bool.{true}
use lib.Seq.{length-take-le}
use denote.Floats.{passes}
use Rattle.answers.specs.Answer.{passed}
use Rattle.problem.specs.Lent.{lent}
use Rattle.checkpoint.specs.Checking.{checkpoint_answer}
use Rattle.search.specs.Call.{count_fits}
use Rattle.checkpoint.specs.Answers.{shape_answer}
use Rattle.search.specs.Answers.{called_of}
use Rattle.search.proofs.CallRefusals.{call_refused, call_words, call_count, call_accepted, front_advanced}
use Rattle.checkpoint.proofs.CheckpointPasses.{passes_shape}
use Rattle.search.proofs.search.Goals as goal
use Rattle.search.proofs.search.Goals.{Else-not-count_fits, In_default}

-- what the tests said: the graphs are sound and the checkpoint is in shape, and the steps count
told_passed : (c : In_default) → checkpoint_answer c.args.connected (lent c.args.problem) c.args.checkpoint ≡ passed
told_passed c = sym c.check.ensures ∙ ap shape_answer c.in_default.is

told_count : (c : Else-not-count_fits) → let a = c.args in count_fits a.checkpoint a.budget ≡ true
told_count c = sym c.count_fits.ensures ∙ c.if-not-count_fits.false

pub returns-then-workspace-lt-WORDS : goal.returns-then-workspace-lt-WORDS
returns-then-workspace-lt-WORDS c =
    let a = c.args in
    call_words a.connected (lent c.args.problem) a.checkpoint a.budget a.workspace.now (told_passed (goal.at.returns-then-workspace-lt-WORDS c).In_default) c.if-workspace-lt-WORDS.true

pub returns-then-not-count_fits : goal.returns-then-not-count_fits
returns-then-not-count_fits c =
    let a = c.args in
    call_count a.connected (lent c.args.problem) a.checkpoint a.budget a.workspace.now (told_passed (goal.at.returns-then-not-count_fits c).In_default) c.if-workspace-lt-WORDS.false
    (sym c.count_fits.ensures ∙ c.if-not-count_fits.true)

pub advance-requires : goal.advance-requires
advance-requires c =
    let fine = passes_shape c.args.connected (lent c.args.problem) c.args.checkpoint (told_passed (goal.at.advance-requires c).In_default) in record {
      sound_problem = fine.0;
      in_shape = fine.1;
      workspace_len = (
        length-take-le 4160 c.args.workspace.now c.if-workspace-lt-WORDS.false,
        passes (count_fits c.args.checkpoint c.args.budget) (told_count (goal.at.advance-requires c).Else-not-count_fits),
      );
    }

pub returns-in-Err : goal.returns-in-Err
returns-in-Err c =
    let a = c.args in
    call_refused a.connected (lent c.args.problem) a.checkpoint a.budget a.workspace.now _ (sym c.check.ensures ∙ ap shape_answer c.in-Err.is)

pub returns : goal.returns
returns c =
    let call = c.advance in
    let a = c.args in
    front_advanced a.connected (lent c.args.problem) a.checkpoint a.budget a.workspace.now (called_of call.result call.new.workspace)
    call.ensures
    ∙ call_accepted a.connected (lent c.args.problem) a.checkpoint a.budget a.workspace.now (told_passed (goal.at.returns c).In_default) c.if-workspace-lt-WORDS.false (told_count (goal.at.returns c).Else-not-count_fits)
