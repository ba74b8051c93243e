-- `replies::of_mapping` meets its contract: the number, the value and the earlier row are the answer's. Assumes nothing.
use mathlib.Core.Path.{◌≡◌, refl, ap₂, ◌∙◌}
use Prim.Native.Nat.{ℕ}
use Rattle.std.specs.Prelude.{Result, Ok, Err}
use Rattle.answers.specs.Answer.{counted}
use Rattle.mapping.specs.declared.MappingError.{MappingError}
use Rattle.mapping.specs.Answers.{Outcome, accepted, refused, refused_row, refused_rows, outcome_number, outcome_answer, mapping_refusal, mapping_outcome, fault_outcome}
use Rattle.replies.specs.Reply.{reply, reply_of}
use Rattle.replies.specs.Checked.{checked, outcome_value}
use Rattle.replies.proofs.of_mapping.Goals as goal

-- an outcome's number and value are those of the answer that it is without the earlier row
without_row : (o : Outcome) → reply_of (outcome_answer o) ≡ reply (outcome_number o) (outcome_value o)
without_row (accepted n) = refl
without_row (refused number) = refl
without_row (refused_row number row) = refl
without_row (refused_rows number row earlier) = refl

told : (r : Result ℕ MappingError) → reply_of (counted mapping_refusal r) ≡ reply (outcome_number (mapping_outcome r)) (outcome_value (mapping_outcome r))
told (Ok n) = refl
told (Err e) = without_row (fault_outcome e)

pub returns : goal.returns
returns c = ap₂ checked (c.of.ensures ∙ told c.args.answer) c.earlier_row.ensures
