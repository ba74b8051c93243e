-- What each answer of this crate says in 01's terms: the ceiling, or a refusal's number (01, "Refusals by place of checking").
use Rattle.std.specs.Prelude.{List, Result, ℕ}
use Rattle.answers.specs.Answer.{Answer, refused, counted}
use Rattle.checkpoint.specs.Answers.{shape_number}
use Rattle.search.specs.declared.SearchError.{SearchError}
use Rattle.search.specs.declared.SearchError.TheVariants.{Shape, FewWords, ManySteps}
use Rattle.search.specs.declared.Searched.{Searched}
use Rattle.search.specs.Call.{Called}

abbrev pub search_refusal : SearchError → Answer
search_refusal (Shape e) = refused (shape_number e)
search_refusal FewWords = refused 15
search_refusal ManySteps = refused 16

abbrev pub search_answer : Result ℕ SearchError → Answer
search_answer r = counted search_refusal r

abbrev pub called_of : Searched → List ℕ → Called
called_of r workspace = record { answer = search_answer r.answer; checkpoint = r.checkpoint; workspace = workspace }
