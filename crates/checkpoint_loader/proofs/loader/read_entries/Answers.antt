use Rattle.checkpoint_loader.proofs.EntryRuns.{read_none, read_more, read_all}
use Rattle.checkpoint_loader.proofs.loader.read_entries.Goals as goal

pub loop-i-init : goal.loop-i-init
loop-i-init c = read_none _ _ _

pub loop-i-preserved : goal.loop-i-preserved
loop-i-preserved c = read_more _ _ _ _ _ c.loop-i.invariant c.requires.0 c.loop-i-test.true

pub returns : goal.returns
returns c = read_all _ _ _ _ _ c.loop-i.invariant c.loop-i-test.false
