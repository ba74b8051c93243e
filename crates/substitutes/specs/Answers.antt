-- What the answer of the test of a list says in 02's terms (02, U1).
use Rattle.std.specs.Prelude.{Result, ℕ}
use Rattle.answers.specs.Answer.{Answer, refused, tested}
use Rattle.substitutes.specs.declared.SubstitutesFlaw.{SubstitutesFlaw}
use Rattle.substitutes.specs.declared.SubstitutesFlaw.TheVariants as flaw

abbrev pub substitutes_number : SubstitutesFlaw → ℕ
substitutes_number flaw.Length = 23
substitutes_number flaw.Labels = 24

abbrev pub substitutes_refusal : SubstitutesFlaw → Answer
substitutes_refusal f = refused (substitutes_number f)

abbrev pub substitutes_answer_of : Result Unit SubstitutesFlaw → Answer
substitutes_answer_of r = tested substitutes_refusal r
