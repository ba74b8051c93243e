-- `checkpoint_saver::saver::put_header` meets its contract: what is stored is the header (`SaveSections`). Assumes nothing.
use mathlib.Core.Path.{◌∙◌}
use Rattle.checkpoint_saver.proofs.SaveSections.{header_stored}
use Rattle.checkpoint_saver.proofs.saver.put_header.Goals as goal

pub returns : goal.returns
returns c =
    rw c.state_byte.ensures
    (header_stored c.args.checkpoint.now c.args.out.now c.copy_from_slice.new.self c.requires (c.copy_from_slice.ensures.after ∙ c.store.ensures))
