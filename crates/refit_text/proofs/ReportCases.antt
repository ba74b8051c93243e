-- The text of a search call's answer, by its cases: the lines of a ceiling, and the line of a refusal's number.
use mathlib.Core.Path.{◌≡◌, refl, sym, ap, ◌∙◌}
use mathlib.Core.List.{◌++◌}
use Prim.Native.Nat.{ℕ}
use lib.ListN.{take}
use Rattle.std.specs.Prelude.{Result, Ok, Err}
use Rattle.answers.specs.Answer.{refusal_number}
use Rattle.checkpoint.specs.declared.Checkpoint.{Checkpoint}
use Rattle.search.specs.declared.SearchError.{SearchError}
use Rattle.search.specs.declared.SearchError.TheVariants.{Shape, FewWords, ManySteps}
use Rattle.search.specs.Answers.{search_answer}
use Rattle.refit_text.specs.Report.{head_lines, incumbent_lines, accepted_text, refused_text, report_text}

module _ (n m : ℕ) (c : Checkpoint) (r : Result ℕ SearchError) where
  pub ceiling_text : (ceiling : ℕ) → r ≡ Ok ceiling
      → head_lines c.finished c.holds (take n c.incumbent) c.steps ceiling ++ incumbent_lines c.holds m (take n c.incumbent)
      ≡ report_text n m (search_answer r) c
  unfolding accepted_text
  ceiling_text ceiling e = ap (λ (x : Result ℕ SearchError). report_text n m (search_answer x) c) (sym e)

-- an answer that is no ceiling
other_text : (n m : ℕ) (c : Checkpoint) (r : Result ℕ SearchError) → ((ceiling : ℕ) → r ≡ Ok ceiling → ⊥)
    → refused_text (refusal_number (search_answer r)) ≡ report_text n m (search_answer r) c
other_text n m c (Ok ceiling) k = absurd (k ceiling refl)
other_text n m c (Err (Shape e)) k = refl
other_text n m c (Err FewWords) k = refl
other_text n m c (Err ManySteps) k = refl

-- The line of a refusal's number is the text of the answer.
pub refusal_text : (n m : ℕ) (c : Checkpoint) (r : Result ℕ SearchError) → ((ceiling : ℕ) → r ≡ Ok ceiling → ⊥)
    → (number : ℕ) → number ≡ refusal_number (search_answer r) → refused_text number ≡ report_text n m (search_answer r) c
refusal_text n m c r other number e = ap refused_text e ∙ other_text n m c r other
