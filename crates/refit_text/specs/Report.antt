-- What refit prints of a search call: 01, "The refit program".
use Rattle.std.specs.Prelude.{Bool, cond, List, [], ◌++◌, ℕ, take}
use Rattle.answers.specs.Answer.{Answer, on_answer}
use Rattle.checkpoint.specs.declared.Checkpoint.{Checkpoint}
use Rattle.text.specs.Put.{number_line}
use Rattle.refit_text.specs.Lines.{state_line, steps_word, fence_word, refused_word, size_line, keep_lines, remove_lines, fit_lines}

-- the lines of the vertices, for a mapping l of the old vertices and m new ones
unfoldable pub vertex_lines : ℕ → List ℕ → List ℕ
vertex_lines m l = keep_lines l ++ remove_lines l ++ fit_lines m l

-- the four lines that come first; 01 calls the ceiling a fence
abbrev pub head_lines : Bool → Bool → List ℕ → ℕ → ℕ → List ℕ
head_lines finished holds l steps ceiling =
    state_line finished ++ size_line holds l ++ number_line steps_word steps ++ number_line fence_word ceiling

-- ".. and no part lines"
abbrev pub incumbent_lines : Bool → ℕ → List ℕ → List ℕ
incumbent_lines holds m l = cond holds (vertex_lines m l) []

-- n is the old order, m the new one
unfoldable pub accepted_text : ℕ → ℕ → ℕ → Checkpoint → List ℕ
accepted_text n m ceiling c =
    let l = take n c.incumbent in
    head_lines c.finished c.holds l c.steps ceiling ++ incumbent_lines c.holds m l

-- "A refusal prints one line, refused and its number"
abbrev pub refused_text : ℕ → List ℕ
refused_text number = number_line refused_word number

-- `passed` is no answer of a search call
abbrev pub report_text : ℕ → ℕ → Answer → Checkpoint → List ℕ
report_text n m answer c =
    on_answer [] (λ ceiling. accepted_text n m ceiling c) (λ number. refused_text number) (λ number at. refused_text number) answer
