-- `checkpoint_saver::saver::put_entries` meets its contract: the entries passed are stored, 2 bytes for each. Assumes nothing.
use mathlib.Core.List.{[], ◌∷◌}
use lib.ListN.{get_or, length}
use Rattle.answers.proofs.Stores.{StoredTo}
use Rattle.checkpoint_saver.proofs.saver.put_entries.Given as goal

abbrev pub invariant-loop-entry : goal.invariant-loop-entry
invariant-loop-entry l = StoredTo (length l.entries) (λ j. l.mark ∷ get_or l.entries j 0 ∷ []) l.start l.initial.out l.entry-index l.at l.out
