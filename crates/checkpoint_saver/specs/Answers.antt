-- What each answer of this crate says in 01's terms: a count, or a refusal's number (01, "Refusals by place of checking").
use Rattle.std.specs.Prelude.{Result, ℕ}
use Rattle.answers.specs.Answer.{Answer, refused, counted}
use Rattle.checkpoint.specs.Answers.{shape_refusal}
use Rattle.checkpoint_saver.specs.declared.SaveError.{SaveError}
use Rattle.checkpoint_saver.specs.declared.SaveError.TheVariants.{Shape, TooShort}

abbrev pub save_refusal : SaveError → Answer
save_refusal (Shape e) = shape_refusal e
save_refusal TooShort = refused 13

abbrev pub save_answer : Result ℕ SaveError → Answer
save_answer r = counted save_refusal r
