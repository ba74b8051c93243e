-- `checkpoint_loader::loader::read_entries` meets its contract: the entries passed are read, in front of 0 (`EntryRuns`). Assumes nothing.
use Rattle.checkpoint_loader.proofs.EntryRuns.{ReadTo}
use Rattle.checkpoint_loader.proofs.loader.read_entries.Given as goal

abbrev pub invariant-loop-i : goal.invariant-loop-i
invariant-loop-i l = ReadTo l.bytes l.from l.k l.i l.list
