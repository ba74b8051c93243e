-- What the code's results say in 01's terms: the answer of the search call, and the visits, the checkpoint and the workspace beside it.
use Rattle.std.specs.Prelude.{List, ℕ}
use Rattle.search.specs.declared.Searched.{Searched}
use Rattle.search.specs.Answers.{search_answer}
use Rattle.descend.specs.declared.Descended.{Descended as DescendedCode}
use Rattle.descend.specs.Call.{Started, Descended}

abbrev pub started_of : Searched → Started
started_of r = record { answer = search_answer r.answer; checkpoint = r.checkpoint }

abbrev pub descended_of : DescendedCode → List ℕ → Descended
descended_of r workspace = record { answer = search_answer r.answer; visits = r.visits; checkpoint = r.checkpoint; workspace = workspace }
