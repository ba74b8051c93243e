-- A search call on a lent checkpoint, as the call it comes to: 01, "Bookmark and calls", second paragraph.
use Rattle.std.specs.Prelude.{List, Result, ℕ}
use Rattle.checkpoint.specs.declared.Checkpoint.{Checkpoint}
use Rattle.search.specs.declared.SearchError.{SearchError}
use Rattle.search.specs.Call.{Called}
use Rattle.search.specs.Answers.{search_answer}

-- "The caller lends the bookmark to be advanced, and a call changes only it and the work words": the answer, and the two as the call leaves them
abbrev pub lent_call : Result ℕ SearchError → Checkpoint → List ℕ → Called
lent_call answer checkpoint workspace = record { answer = search_answer answer; checkpoint = checkpoint; workspace = workspace }
