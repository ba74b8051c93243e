-- What the command reader reads at its place, and where it goes next: 01, "Charts", "The command reader carries the chart bytes along with its place"; since
-- 02, U6, with the edition of the bytes as well.
use Rattle.std.specs.Prelude.{List, ℕ, ◌+◌, drop}
use Rattle.graph_reader.specs.declared.Edition.{Edition}
use Rattle.graph_reader.specs.declared.commands.Command.{Command}
use Rattle.graph_reader.specs.Commands.{decode, width}

-- "After each command the rest of the bytes is read as a stretch of its own": the rest begins at the place.
abbrev pub command_at : List ℕ → ℕ → Edition → Command
command_at bytes at edition = decode edition (drop at bytes)

-- "commands of one byte with operands of fixed width": the next command begins where this one's operands end.
abbrev pub place_after : ℕ → Edition → Command → ℕ
place_after at edition command = at + width edition command
