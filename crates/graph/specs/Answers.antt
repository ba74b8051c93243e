-- What the answer of the test of soundness says in 01's terms (01, "Refusals by place of checking", the rows "Tables lent" and "Chart sound").
use Rattle.std.specs.Prelude.{Result, ℕ}
use Rattle.answers.specs.Answer.{Answer, refused, tested}
use Rattle.graph.specs.declared.Flaw.{Flaw}
use Rattle.graph.specs.declared.Flaw.TheVariants as flaw

abbrev pub flaw_number : Flaw → ℕ
flaw_number flaw.Tables = 10
flaw_number flaw.Labels = 11
flaw_number flaw.Edges = 12

abbrev pub flaw_refusal : Flaw → Answer
flaw_refusal f = refused (flaw_number f)

abbrev pub soundness_answer : Result Unit Flaw → Answer
soundness_answer r = tested flaw_refusal r
