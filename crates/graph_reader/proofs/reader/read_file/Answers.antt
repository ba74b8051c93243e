-- `graph_reader::reader::read_file` meets its contract: a file that opens as its edition does is read, and any other is refused at 0.
-- Assumes nothing.
use mathlib.Core.Path.{sym}
use Rattle.graph_reader.specs.Reading.{read_file}
use Rattle.graph_reader.proofs.Openings.{opened_fits}
use Rattle.graph_reader.proofs.reader.read_file.Goals as goal

pub read_commands-requires : goal.read_commands-requires
read_commands-requires c = (c.requires.0, c.requires.1, opened_fits _ _ (sym c.in-Ok.ensures))

pub returns-in-Err : goal.returns-in-Err
unfolding read_file
returns-in-Err c = simp (← c.in-Err.ensures, c.requires.0, c.requires.1)
