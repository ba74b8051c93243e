-- A search call over words of its own: the words that it uses, its answer and checkpoint, and the lent words once it is accepted (01, "Bookmark and calls",
-- second paragraph).
use Rattle.std.specs.Prelude.{◌≡◌, List, ◌++◌, ℕ, min, length, drop, replicate}
use Rattle.search.specs.declared.Searched.{Searched}
use Rattle.search.specs.Call.{Called, words_needed}
use Rattle.search.specs.Answers.{called_of}

-- the answer and the checkpoint are this call's
abbrev pub FoundBy : Searched → Called → Type 0
FoundBy r call = called_of r call.workspace ≡ call

-- of so many words, those that a call uses: all that it needs, or all there are
abbrev pub words_used : ℕ → ℕ
words_used words = min words_needed words

-- these become 0, and later words stay; with the words needed this is `cleared`
abbrev pub used_cleared : List ℕ → List ℕ
used_cleared workspace = let used = words_used (length workspace) in replicate used 0 ++ drop used workspace
