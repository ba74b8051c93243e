use Rattle.search.proofs.MaskRows.{masks_none}
use Rattle.search.proofs.words.fill_masks.Goals as goal

pub loop-w-init : goal.loop-w-init
loop-w-init c = masks_none _ _ c.requires.1
