-- What each answer of this crate says in 01's terms: passed, a refusal's number, or a number with its place (01, "Refusals by place of checking").
use Rattle.std.specs.Prelude.{Result}
use Rattle.answers.specs.Answer.{Answer, refused_at, tested}
use Rattle.checkpoint.specs.Answers.{shape_refusal}
use Rattle.checkpoint_loader.specs.declared.LoadError.{LoadError}
use Rattle.checkpoint_loader.specs.declared.LoadError.TheVariants.{Shape, Malformed}

abbrev pub load_refusal : LoadError → Answer
load_refusal (Shape e) = shape_refusal e
load_refusal (Malformed at) = refused_at 17 at

abbrev pub load_answer : Result Unit LoadError → Answer
load_answer r = tested load_refusal r
