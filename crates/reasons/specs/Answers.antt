-- What the answer of this crate says in 01's terms, with the buffer afterwards (01, "Refusals by place of checking", the row "Output").
use Rattle.std.specs.Prelude.{Result, List, ℕ}
use Rattle.answers.specs.Answer.{Answer, refused, counted}
use Rattle.answers.specs.Output.{Writing}
use Rattle.reasons.specs.declared.ReasonError.{ReasonError}
use Rattle.reasons.specs.declared.ReasonError.TheVariants.{TooShort}

abbrev pub reason_refusal : ReasonError → Answer
reason_refusal TooShort = refused 13

abbrev pub reason_answer : Result ℕ ReasonError → Answer
reason_answer r = counted reason_refusal r

abbrev pub writing_of : Result ℕ ReasonError → List ℕ → Writing
writing_of r buffer = record { answer = reason_answer r; buffer = buffer }
