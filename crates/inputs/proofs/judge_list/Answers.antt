-- `inputs::judge_list` meets its contract: the number is that of what the test of the list answers. Assumes nothing.
use mathlib.Core.Path.{◌≡◌, ap, sym, ◌∙◌}
use mathlib.Core.List.{List}
use Prim.Native.Nat.{ℕ}
use Rattle.std.specs.Prelude.{Result}
use Rattle.substitutes.specs.declared.SubstitutesFlaw.{SubstitutesFlaw}
use Rattle.substitutes.specs.Answers.{substitutes_answer_of}
use Rattle.substitutes.specs.Soundness.{substitutes_answer}
use Rattle.replies.specs.Reply.{reply_of}
use Rattle.inputs.proofs.judge_list.Goals as goal

-- the reply to an answer that is known
told : (list : List ℕ) {known answer : Result Unit SubstitutesFlaw} → answer ≡ known → substitutes_answer_of answer ≡ substitutes_answer list
    → reply_of (substitutes_answer_of known) ≡ reply_of (substitutes_answer list)
told list e tested = ap (λ (a : Result Unit SubstitutesFlaw). reply_of (substitutes_answer_of a)) (sym e) ∙ ap reply_of tested

pub returns-in-Ok : goal.returns-in-Ok
returns-in-Ok c = c.accepted.ensures ∙ told _ c.in-Ok.is c.check_substitutes.ensures

pub returns-in-Err : goal.returns-in-Err
returns-in-Err c = c.refused.ensures ∙ told _ c.in-Err.is c.check_substitutes.ensures
