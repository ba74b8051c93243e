-- `search::words::level_word` meets its contract: the word at the row's place where the row is in the level's set, else the empty set (`Levels`).
-- Assumes nothing.
use mathlib.Core.Path.{sym, ◌∙◌}
use Rattle.search.proofs.Levels.{word_open, word_closed}
use Rattle.search.proofs.words.level_word.Goals as goal

pub returns-then-has : goal.returns-then-has
returns-then-has c =
    let a = c.args in
    sym (word_open a.workspace.now a.pairs a.row.0 (sym c.has.ensures ∙ c.if-has.true))

pub returns-else-has : goal.returns-else-has
returns-else-has c =
    let a = c.args in
    sym (word_closed a.workspace.now a.pairs a.row.0 (sym c.has.ensures ∙ c.if-has.false))
