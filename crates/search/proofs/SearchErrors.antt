-- What an error of a search call says is a refusal.
use mathlib.Core.Path.{◌≡◌, refl, sym, ap, ◌∙◌}
use mathlib.Core.Bool.{true, true≢false}
use Prim.Native.Nat.{ℕ}
use Rattle.std.specs.Prelude.{Result, Err}
use Rattle.answers.specs.Answer.{accepted, is_refused}
use Rattle.search.specs.declared.SearchError.{SearchError}
use Rattle.search.specs.declared.SearchError.TheVariants.{Shape, FewWords, ManySteps}
use Rattle.search.specs.Answers.{search_refusal, search_answer}

pub error_refused : (e : SearchError) → is_refused (search_refusal e) ≡ true
error_refused (Shape e) = refl
error_refused FewWords = refl
error_refused ManySteps = refl

-- It is no ceiling.
pub no_ceiling : {r : Result ℕ SearchError} (e : SearchError) (top : ℕ) → r ≡ Err e → search_answer r ≡ accepted top → ⊥
no_ceiling e top arm told = true≢false (sym (error_refused e) ∙ ap is_refused (sym (ap search_answer arm) ∙ told))
