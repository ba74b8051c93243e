-- Graph bytes moved from one edition to the other (02, U6).
use Rattle.std.specs.Prelude.{List, ℕ}
use Rattle.graph_reader.specs.declared.Edition.{Edition}
use Rattle.graph_writer.specs.Moving.{moving}
use Rattle.c_api.specs.Wrote.{Wrote, wrote_by}

abbrev pub moving_to : Edition → Edition → List ℕ → List ℕ → Wrote
moving_to from to bytes buffer = wrote_by (moving from to bytes buffer)
